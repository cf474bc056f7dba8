-- Bytes fed in parts, and the text of what was fed. Assumes nothing.
use Prim.Native.Nat.{ℕ}
use mathlib.Core.Path.{refl, ap, sym, ◌∙◌}
use mathlib.Core.List.{List, [], ◌++◌}
use Rattle.std.specs.Prelude.{Option}
use Rattle.std.specs.Io.KnownBytes.{Keeps, Consumes, IsAtEnd}
use Rattle.std.proofs.KnownBytes.{Consumes-nil, Consumes-kept, Consumes-trans, Consumes-all, Keeps-refl}
use Rattle.quote_lines.specs.Store.{new_reader, fed, finished, seen}
use Rattle.quote_lines.specs.declared.reader.Reader.{Reader}
use Rattle.quote_lines.proofs.Keeps.{fed_none, fed_append}
use Rattle.quote_lines.proofs.Inputs.{reads}
use Rattle.quote_board.specs.Text.{text, feequote}
use Rattle.feequote.specs.Reads.{Fed, TextOf, TextOfSome}

pub fed_still : (had left : Option (List ℕ)) (r : Reader) → Consumes had left [] → Fed had left r r
fed_still had left r h = record { bytes = []; reached = sym (fed_none r); taken = h }

pub fed_kept : (had left : Option (List ℕ)) (r : Reader) → Keeps had left → Fed had left r r
fed_kept had left r h = fed_still had left r (Consumes-kept had had left [] (Consumes-nil had) h)

-- before the first read
pub fed_first : (had : Option (List ℕ)) (r : Reader) → Fed had had r r
fed_first had r = fed_kept had had r (Keeps-refl had)

pub fed_on : {had left rest : Option (List ℕ)} {r s t : Reader} → Fed had left r s → Fed left rest s t → Fed had rest r t
fed_on {had} {left} {rest} {r} a b =
    record {
      bytes = a.bytes ++ b.bytes;
      reached = b.reached ∙ ap (λ (x : Reader). fed x b.bytes) a.reached ∙ sym (fed_append r a.bytes b.bytes);
      taken = Consumes-trans had left rest a.bytes b.bytes a.taken b.taken;
    }

-- the text of what was fed, from the state at the end of the input
pub quoted : {had left : Option (List ℕ)} {r : Reader} → Fed had left new_reader r → IsAtEnd left → TextOf had (text (seen (finished r)))
unfolding feequote
quoted {had} {left} {r} f z =
    record {
      input = f.bytes;
      all = Consumes-all had left f.bytes [] f.bytes f.taken z refl;
      is_text = rw f.reached (ap text (reads f.bytes));
    }

pub of_some : {had : Option (List ℕ)} {t : List ℕ} → TextOf had t → TextOfSome t
of_some q = record { input = q.input; is_text = q.is_text }
