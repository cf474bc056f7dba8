-- The hurdles that a question's words describe. Definitions only.
use Rattle.std.specs.Prelude.{◌≡◌, ℕ, ◌+◌, ◌-◌, ◌<◌, ◌≤◌, min, List, Option, MatchOption, slice_index}
use Rattle.replay_lines.specs.declared.digests.Hurdles.{Hurdles}
use Rattle.replay_lines.specs.Digest.{turned_of, replayed_hurdle}

-- as many as word 5 says, 2,304 at most; the generator starts at word 0
pub record StartsHurdles (ws : List ℕ) (s : Hurdles) : Type 0 where
  pub words : s.words.now ≡ ws
  pub count : s.count ≡ min (slice_index ws 5) 2304
  pub place : s.place ≡ 0
  pub start : s.x ≡ slice_index ws 0

-- the hurdle at the next place, by the generator's next word
pub record NextHurdle (s : Hurdles) (h : ℕ) (t : Hurdles) : Type 0 where
  pub some : s.place < s.count
  pub value : h ≡ replayed_hurdle s.words.now s.place (s.count - s.place) (turned_of s.x)
  pub words : t.words.now ≡ s.words.now
  pub count : t.count ≡ s.count
  pub place : t.place ≡ s.place + 1
  pub next : t.x ≡ turned_of s.x

abbrev pub GivesHurdle : Hurdles → Option ℕ → Hurdles → Type 0
GivesHurdle s r t = MatchOption r ((s.count ≤ s.place) × (t ≡ s)) (λ h. NextHurdle s h t)
