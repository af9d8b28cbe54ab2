use Rattle.std.proofs.Common.{rules}
use Rattle.std.proofs.iter.runs.Made.{chains}
use Rattle.bank.specs.Holding.{held_by}
use Rattle.bank.proofs.Held.{newest_place}
use Rattle.bank.proofs.hold_back.HoldBack.newest.Goals as goal

pub returns-clause-value : goal.returns-clause-value
returns-clause-value g c = newest_place (held_by c.args.self.now) c.args.cell c.rposition.result (search (rules, chains))
