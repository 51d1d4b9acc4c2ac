use Rattle.segment_desk.specs.Tables.{desk_of}
use Rattle.segment_desk.proofs.ReachLemmas.{kept}
use Rattle.segment_desk.proofs.laws.law_of_desk_states.Goals as goal

pub returns : goal.returns
returns c = record {
  events = kept;
  table = λ n w s is. kept n w (desk_of s) is.1;
}
