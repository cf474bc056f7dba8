use Rattle.std.proofs.Common.{◌<◌, length, ap, arith}
use Rattle.quote_lines.specs.Few.{front-long}
use Rattle.quote_lines.proofs.Padded.{padded_more}
use Rattle.quote_lines.proofs.few.Few.push.Goals as goal

pub invariant_of-self : goal.invariant_of-self
invariant_of-self g c =
    let long = front-long _ _ c.self.inside.len c.self.inside.places c.self.invariant in
    let room : c.self.inside.len < g.row.MOST = omega (arith, c.requires, long, ap length c.self.view_is) in
    padded_more _ _ c.self.inside.len c.self.inside.places c.args.item c.self.invariant room
