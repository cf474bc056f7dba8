-- That the questions of an input were answered, one after the other. Definitions only.
use Rattle.std.specs.Prelude.{◌≡◌, ℕ, ◌<◌, ◌≤◌, List, Option, length}
use Rattle.std.specs.List.{FoldsTo}
use Rattle.std.specs.Io.KnownBytes.{Consumes, IsAtEnd}
use Rattle.replay_lines.specs.Lines.{up_to, lines_of, words_of}
use Rattle.replay_lines.specs.declared.question.Question.{Question}

module _ {A W : Type 0} (gives : A → W → Question → W → Type 0) (a : A) where
  -- a call of a's method with the name and the words of a line succeeded, and brought the writer from w to w'
  pub record Answers (w : W) (line : List ℕ) (w' : W) : Type 0 where
    pub question : Question
    pub name : question.name.now ≡ up_to 32 line
    pub words : question.words.left.now ≡ words_of line (length (up_to 32 line)) 512
    pub met : gives a w question w'

  -- and so, in order, did one call for each line of what the reader gave, up to its end or 65,536 bytes
  pub record AnswersAll (had rest : Option (List ℕ)) (w w' : W) : Type 0 where
    pub text : List ℕ
    pub taken : Consumes had rest text
    pub most : length text ≤ 65536
    pub at_end : length text < 65536 → IsAtEnd rest
    pub answered : FoldsTo Answers w (lines_of text) w'
