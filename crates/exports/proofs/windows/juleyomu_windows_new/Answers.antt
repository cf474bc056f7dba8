-- `exports::windows::juleyomu_windows_new` meets its contract: the fields are those of the answer. Assumes nothing.
use mathlib.Core.Path.{◌∙◌}
use Rattle.exports.proofs.Verdicts.{number_is}
use Rattle.exports.proofs.windows.juleyomu_windows_new.Goals as goal

pub returns-in-Ok-clause-refusal_value : goal.returns-in-Ok-clause-refusal_value
returns-in-Ok-clause-refusal_value c = c.update_fields.ensures.refusal ∙ number_is _ _ c.in-Ok.ensures.refusal

pub returns-in-Err-clause-refusal_value : goal.returns-in-Err-clause-refusal_value
returns-in-Err-clause-refusal_value c = c.update_fields-in-Err.ensures.refusal ∙ number_is _ _ c.in-Err.ensures.refusal
