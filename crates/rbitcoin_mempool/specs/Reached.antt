-- The windows that the public functions reach, and what no call changes. Definitions only.
use Rattle.std.specs.Prelude.{◌≡◌, ℕ, List, length, Float}
use Rattle.rbitcoin_mempool.specs.declared.fee_analog.history.AnalogHistory.{AnalogHistory}
use Rattle.rbitcoin_mempool.specs.Windows.{Windows, windows, opened, push_back_of, push_front_of, pop_back_of, pop_front_of, rebuilt_of}

-- a pop leaves the memory as it is
abbrev pub pop_back_in : Windows → Windows
pop_back_in w = windows (pop_back_of w.state) w.hurdles w.befores w.aheads

abbrev pub pop_front_in : Windows → Windows
pop_front_in w = windows (pop_front_of w.state) w.hurdles w.befores w.aheads

-- t is set up as s: the targets and the capacity, which an opening sets
pub record SetUpAs (s t : AnalogHistory) : Type 0 where
  pub same_targets : t.targets ≡ s.targets
  pub same_tracked : t.tracked ≡ s.tracked
  pub same_capacity : t.capacity ≡ s.capacity

-- from an opening, a refused one too, by any calls, refused ones too, nobody else writing to the memory
pub data Reached : Windows → Type 0 where
  by_new : (targets : List ℕ) (capacity : ℕ) (hs : List ℕ) (bs : List Float) (ds : List ℕ) → Reached (windows (opened targets capacity (length hs) (length bs) (length ds)) hs bs ds)
  by_push_back : (w : Windows) (x : ℕ) → Reached w → Reached (push_back_of x w)
  by_push_front : (w : Windows) (x : ℕ) → Reached w → Reached (push_front_of x w)
  by_pop_back : (w : Windows) → Reached w → Reached (pop_back_in w)
  by_pop_front : (w : Windows) → Reached w → Reached (pop_front_in w)
  by_rebuild : (w : Windows) (xs : List ℕ) → Reached w → Reached (rebuilt_of xs w)
