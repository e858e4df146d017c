use Rattle.std.proofs.Common.{◌≡◌, true}
use Rattle.sg_target.specs.State.{State}
use Rattle.sg_fencing.specs.Fencing.{IsLeft, holds_alone}
use Rattle.sg_fencing.proofs.FaultLemmas.{kept-away, left-without-writing}
use Rattle.sg_fencing.proofs.HolderLemmas.{alone, is-exclusive, refuses-others}
use Rattle.sg_fencing.proofs.OthersLemmas.{nothing-left, others-keep}
use Rattle.sg_fencing.proofs.laws.faults_let_nobody_past_the_holder.Goals as goal

pub returns : goal.returns
returns c disk holder other cdb data_out w differ held =
    let state = disk.state in
    let classes = c.commands_have_their_class.ensures in
    let refuses = c.others_are_refused.ensures in
    let h = alone state holder w held in
    let no = refuses-others refuses state.reservations holder other differ h in
    record {
      kept =
          kept-away c.refused_commands_stay_refused.ensures disk other cdb data_out classes _ no.writes
          (λ exclusive. no.reads (is-exclusive state holder h exclusive));
      view =
          left-without-writing c.faults_only_drop_or_shorten.ensures disk other cdb data_out
          (λ (after : State). holds_alone after holder ≡ true → IsLeft state after holder)
          (λ still. nothing-left state holder)
          (λ still. (others-keep c.limits_are_kept.ensures refuses classes state holder other cdb data_out w
          differ held still).left)
          classes no.writes;
    }
