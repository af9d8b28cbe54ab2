use Rattle.std.proofs.Common.{refl}
use Rattle.cases.proofs.worked_cases.Goals as goal

pub returns : goal.returns
returns c = record {
  session_under_closer_wins = refl;
  session_cells = refl;
  session_under_newcomer_yields = refl;
  both_writers_commit = refl;
  later_close_stands = refl;
  younger_closer_yields = refl;
  empty_commit = refl;
  clients_7_and_8 = refl;
  cells_7_and_8 = refl;
  entries_64_and_65 = refl;
  first_client_named = refl;
  first_cell_named = refl;
  mark_with_first_cell = refl;
  yield_marks_nobody = refl;
  read_before_write_counts = refl;
  own_write_read = refl;
  window_of_length_0 = refl;
  window_of_length_1 = refl;
}
