-- The pair windows in lent memory: what each operation does to the state and to every element of the memory, for every state and memory. Definitions only.
use Rattle.std.specs.Prelude.{◌≡◌, ℕ, zero, suc, ◌+◌, ◌-◌, ◌*◌, ◌/◌, ◌<◌, ◌≤◌, Bool, true, false, cond, List, [], ◌∷◌, length, take, drop, replicate, ◌==◌, nat_eq, nat_le, nat_lt, slice_index, slice_index_or, slice_set, Float}
use Rattle.std.specs.Float.{nan}
use Rattle.slices.specs.Lists.{tabulate, moved}
use Rattle.slices.specs.Search.{seek}
use Rattle.rbitcoin_mempool.specs.Median.{analog_lookback}
use Rattle.rbitcoin_mempool.specs.Pairs.{Pair, ahead_of, before_at, ahead_at, windows_in, pairs_of}
use Rattle.rbitcoin_mempool.specs.declared.fee_analog.history.AnalogHistory.{AnalogHistory}

-- f 0, then f 1, and so on to f (n - 1)
unfoldable pub each_target : {A : Type 0} → (ℕ → List A → List A) → ℕ → List A → List A
each_target f zero xs = xs
each_target f (suc n) xs = f n (each_target f n xs)

-- a state with the memory that is lent to it
pub record Windows : Type 0 where
  pub state : AnalogHistory
  pub hurdles : List ℕ
  pub befores : List Float
  pub aheads : List ℕ

abbrev pub windows : AnalogHistory → List ℕ → List Float → List ℕ → Windows
windows s hs bs ds = record { state = s; hurdles = hs; befores = bs; aheads = ds }

-- the held hurdles, oldest first
unfoldable pub held : AnalogHistory → List ℕ → List ℕ
held s hs = take s.count (drop s.start hs)

abbrev pub held_in : Windows → List ℕ
held_in w = held w.state w.hurdles

-- target number d, and the place in memory of the pair whose window starts at hurdle t of those held: the place of that hurdle, in the target's region
abbrev pub target_at : AnalogHistory → ℕ → ℕ
target_at s d = slice_index s.targets d

abbrev pub place : AnalogHistory → ℕ → ℕ → ℕ
place s d t = d * s.capacity + (s.start + t)

-- the pairs that are stored for target number d
abbrev pub stored_at : Windows → ℕ → ℕ → Pair
stored_at w d t = record { before = slice_index_or w.befores (place w.state d t) nan; ahead = slice_index w.aheads (place w.state d t) }

unfoldable pub stored_pairs : Windows → ℕ → List Pair
stored_pairs w d = tabulate (stored_at w d) (analog_lookback (target_at w.state d)) (windows_in w.state.count (target_at w.state d))

-- the stored pairs of each target are the pairs of the held hurdles
unfoldable pub WellStored : Windows → Type 0
WellStored w = (d : ℕ) → d < w.state.tracked → stored_pairs w d ≡ pairs_of (held_in w) (target_at w.state d)

-- what a call is refused with, 0 for nothing: "3: more than 16 targets", "5: .. a capacity above 65,536"; and 5 for a start and a count that together are above the capacity
unfoldable pub state_refusal : AnalogHistory → ℕ
state_refusal s = cond (nat_lt 16 s.tracked) 3 (cond (nat_lt 65536 s.capacity) 5 (cond (nat_lt s.capacity (s.start + s.count)) 5 0))

-- "5: a history or scratch slice shorter than the capacity asked for"; the pairs have a region of that size for each target
unfoldable pub size_refusal : AnalogHistory → ℕ → ℕ → ℕ → ℕ
size_refusal s h b a = cond (nat_lt h s.capacity) 5 (cond (nat_lt b (s.tracked * s.capacity)) 5 (cond (nat_lt a (s.tracked * s.capacity)) 5 0))

-- x, or y where x is 0
abbrev pub or_else : ℕ → ℕ → ℕ
or_else x y = cond (x == 0) y x

unfoldable pub lent_refusal : AnalogHistory → ℕ → ℕ → ℕ → ℕ
lent_refusal s h b a = or_else (state_refusal s) (size_refusal s h b a)

-- "4: .. a push onto full pair windows, or a rebuild longer than their capacity", after 5
unfoldable pub push_refusal : AnalogHistory → ℕ → ℕ → ℕ → ℕ
push_refusal s h b a = or_else (lent_refusal s h b a) (cond (s.count == s.capacity) 4 0)

unfoldable pub rebuild_refusal : ℕ → AnalogHistory → ℕ → ℕ → ℕ → ℕ
rebuild_refusal n s h b a = or_else (lent_refusal s h b a) (cond (nat_lt s.capacity n) 4 0)

abbrev pub push_refusal_of : Windows → ℕ
push_refusal_of w = push_refusal w.state (length w.hurdles) (length w.befores) (length w.aheads)

abbrev pub rebuild_refusal_of : List ℕ → Windows → ℕ
rebuild_refusal_of xs w = rebuild_refusal (length xs) w.state (length w.hurdles) (length w.befores) (length w.aheads)

-- the same state with the held hurdles elsewhere
abbrev pub at : AnalogHistory → ℕ → ℕ → AnalogHistory
at s start count = record { targets = s.targets; tracked = s.tracked; capacity = s.capacity; start = start; count = count }

-- a state with nothing held; target places past the number of targets are 0
unfoldable pub fresh : List ℕ → ℕ → AnalogHistory
fresh targets capacity = record { targets = tabulate (λ i. slice_index targets i) 0 16; tracked = length targets; capacity = capacity; start = 0; count = 0 }

-- the fixed empty state of a refused opening
unfoldable pub unopened : AnalogHistory
unopened = record { targets = replicate 16 0; tracked = 0; capacity = 0; start = 0; count = 0 }

-- `new`, over memory of these sizes: its refusal, 3 before 5, and its state
unfoldable pub open_refusal : List ℕ → ℕ → ℕ → ℕ → ℕ → ℕ
open_refusal targets capacity h b a = lent_refusal (fresh targets capacity) h b a

unfoldable pub opened : List ℕ → ℕ → ℕ → ℕ → ℕ → AnalogHistory
opened targets capacity h b a = cond (open_refusal targets capacity h b a == 0) (fresh targets capacity) unopened

-- in the region of target number d, the n elements at from moved to to
abbrev pub move_region : {A : Type 0} → ℕ → ℕ → ℕ → ℕ → ℕ → List A → List A
move_region capacity to from n d xs = moved xs (d * capacity + to) (d * capacity + from) n

-- everything held moved to start at place to
unfoldable pub moved_to : ℕ → Windows → Windows
moved_to to w =
    let s = w.state in
    windows (at s to s.count)
    (moved w.hurdles to s.start s.count)
    (each_target (move_region s.capacity to s.start s.count) s.tracked w.befores)
    (each_target (move_region s.capacity to s.start s.count) s.tracked w.aheads)

-- room after the newest hurdle, and before the oldest: three quarters of what is free, so that pushes at either end stay cheap
abbrev pub free_of : AnalogHistory → ℕ
free_of s = s.capacity - s.count

unfoldable pub room_back : Windows → Windows
room_back w = cond (w.state.start + w.state.count == w.state.capacity) (moved_to (free_of w.state / 4) w) w

unfoldable pub room_front : Windows → Windows
room_front w = cond (w.state.start == 0) (moved_to (free_of w.state - free_of w.state / 4) w) w

abbrev pub room_of : Bool → Windows → Windows
room_of newest w = cond newest (room_back w) (room_front w)

-- a hurdle stored after the newest, or before the oldest
unfoldable pub store_back : ℕ → Windows → Windows
store_back x w = windows (at w.state w.state.start (w.state.count + 1)) (slice_set w.hurdles (w.state.start + w.state.count) x) w.befores w.aheads

unfoldable pub store_front : ℕ → Windows → Windows
store_front x w = windows (at w.state (w.state.start - 1) (w.state.count + 1)) (slice_set w.hurdles (w.state.start - 1) x) w.befores w.aheads

abbrev pub store_of : Bool → ℕ → Windows → Windows
store_of newest x w = cond newest (store_back x w) (store_front x w)

-- room for it there
abbrev pub Room : Bool → AnalogHistory → Type 0
Room true s = s.start + s.count < s.capacity
Room false s = 0 < s.start

-- the window of a new hurdle, which is the newest or the oldest held: `k - d.n`, or `d.lookback`
abbrev pub new_window : Bool → ℕ → ℕ → ℕ
new_window newest count target = cond newest (count - ahead_of target) (analog_lookback target)

-- `if k >= d.lookback + d.n`: the new window's half of target number d stored
unfoldable pub put : {A : Type 0} → (List ℕ → ℕ → ℕ → A) → Bool → AnalogHistory → List ℕ → ℕ → List A → List A
put value newest s hs d xs =
    let target = target_at s d in
    let t = new_window newest s.count target in
    cond (nat_le (analog_lookback target + ahead_of target) s.count) (slice_set xs (place s d t) (value hs target t)) xs

-- the new window's pair of each target stored
unfoldable pub with_pairs : Bool → Windows → Windows
with_pairs newest w =
    windows w.state w.hurdles
    (each_target (put before_at newest w.state (held_in w)) w.state.tracked w.befores)
    (each_target (put ahead_at newest w.state (held_in w)) w.state.tracked w.aheads)

-- `push_back` and `push_front`
unfoldable pub push_back_of : ℕ → Windows → Windows
push_back_of x w = cond (push_refusal_of w == 0) (with_pairs true (store_back x (room_back w))) w

unfoldable pub push_front_of : ℕ → Windows → Windows
push_front_of x w = cond (push_refusal_of w == 0) (with_pairs false (store_front x (room_front w))) w

abbrev pub push_of : Bool → ℕ → Windows → Windows
push_of newest x w = cond newest (push_back_of x w) (push_front_of x w)

-- `rebuild`: everything dropped, and each hurdle pushed behind
unfoldable pub push_all : List ℕ → Windows → Windows
push_all [] w = w
push_all (x ∷ xs) w = push_all xs (push_back_of x w)

abbrev pub emptied : Windows → Windows
emptied w = windows (at w.state 0 0) w.hurdles w.befores w.aheads

unfoldable pub rebuilt_of : List ℕ → Windows → Windows
rebuilt_of xs w = cond (rebuild_refusal_of xs w == 0) (push_all xs (emptied w)) w

-- `pop_back` and `pop_front`, which lend nothing: one hurdle fewer, the oldest at start then; nothing if none is held
unfoldable pub popped : ℕ → AnalogHistory → AnalogHistory
popped start s = cond (state_refusal s == 0) (cond (s.count == 0) s (at s start (s.count - 1))) s

abbrev pub pop_back_of : AnalogHistory → AnalogHistory
pop_back_of s = popped s.start s

abbrev pub pop_front_of : AnalogHistory → AnalogHistory
pop_front_of s = popped (s.start + 1) s

abbrev pub pop_of : Bool → AnalogHistory → AnalogHistory
pop_of newest s = cond newest (pop_back_of s) (pop_front_of s)

-- `find(|d| d.n == n_blocks.max(1))`: the first such target's number, and the number of targets where there is none
unfoldable pub find_target : AnalogHistory → ℕ → ℕ
find_target s n = seek (λ d. nat_eq (ahead_of (target_at s d)) (ahead_of n)) 0 s.tracked

-- `pairs`: "0 for a target not tracked"
unfoldable pub pair_count : AnalogHistory → ℕ → ℕ
pair_count s n = cond (nat_lt (find_target s n) s.tracked) (windows_in s.count n) 0

-- what the refusals leave: the held hurdles lie within the capacity, and the memory holds it
pub record Valid (s : AnalogHistory) (h b a : ℕ) : Type 0 where
  pub few : s.tracked ≤ 16
  pub small : s.capacity ≤ 65536
  pub within : s.start + s.count ≤ s.capacity
  pub hurdles_fit : s.capacity ≤ h
  pub befores_fit : s.tracked * s.capacity ≤ b
  pub aheads_fit : s.tracked * s.capacity ≤ a
