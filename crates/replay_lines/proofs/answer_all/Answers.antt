-- `replay_lines::answer_all` meets its contract. Assumes nothing.
use Rattle.std.proofs.Common.{◌≡◌, length, sym, ◌∙◌}
use Rattle.replay_lines.specs.Lines.{up_to, words_of}
use Rattle.replay_lines.proofs.Replaying.{over-whole}
use Rattle.replay_lines.proofs.Lists.{over_length, words-length}
use Rattle.replay_lines.proofs.answer_all.Goals as goal

pub loop-line-preserved : goal.loop-line-preserved
loop-line-preserved g c =
    let ws = words_of c.in-Some.line.now (length (up_to 32 c.in-Some.line.now)) 512 in
    let whole : length ws ≡ 512 = words-length c.in-Some.line.now (length (up_to 32 c.in-Some.line.now)) 512 in
    let alike = whole ∙ sym c.loop-line.invariant.0 in
    let w : c.new.result.words.left.now ≡ ws = rw (c.new.ensures.words, c.read_words.ensures) (over-whole ws _ alike) in (
      rw c.read_words.ensures (over_length ws c.loop-line.words ∙ c.loop-line.invariant.0),
      λ last rest. c.loop-line.invariant.1 last (rw c.in-Some.ensures.steps (_, record { question = c.new.result; name = c.new.ensures.name; words = w; met = c.in_ok-answer.ensures }, rest)),
    )
