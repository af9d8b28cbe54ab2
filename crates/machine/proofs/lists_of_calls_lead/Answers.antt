use Rattle.machine.proofs.Promises.{lists_of_calls_lead_lem}
use Rattle.machine.proofs.lists_of_calls_lead.Goals as goal

pub returns : goal.returns
returns c = lists_of_calls_lead_lem
