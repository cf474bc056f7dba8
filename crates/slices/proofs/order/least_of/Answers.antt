-- `slices::order::least_of` meets its contract. Assumes nothing.
use Rattle.std.proofs.Common.{sym, ◌∙◌}
use Rattle.std.proofs.lemmas.Iterator.{YieldsList-from_slice}
use Rattle.std.proofs.lemmas.Iterator.Adapters.{option_map_id}
use Rattle.std.proofs.lemmas.Iterator.Consumers.{YieldsList-from_copied, min_from_yields_List}
use Rattle.slices.proofs.Least.{least_from_min}
use Rattle.slices.proofs.order.least_of.Goals as goal

pub returns : goal.returns
returns c =
    let e = min_from_yields_List c.copied.result c.min.result c.min.ensures.ran (YieldsList-from_copied (YieldsList-from_slice c.args.xs.now (cc))) in
    c.unwrap_or.ensures ∙ least_from_min c.args.xs.now c.type_inv.xs _ (sym (option_map_id _) ∙ e)
