use Rattle.machine.proofs.Promises.{states_are_sound_lem}
use Rattle.machine.proofs.states_are_sound.Goals as goal

pub returns : goal.returns
returns c = states_are_sound_lem
