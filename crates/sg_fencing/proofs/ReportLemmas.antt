-- What REPORT LUNS and LOG SENSE return.
use Rattle.std.proofs.Common.{◌≡◌, ℕ, Bool, List, Option, Some, None, Result, Ok, Err}
use Rattle.std.proofs.Common.{refl, ap, subst, zero, suc, arith}
use Rattle.std.proofs.lemmas.Bool.Decides.{nat_tests}
use Rattle.std.specs.FinMap.{len}
use Rattle.std.specs.Prelude.{ok_or, ◌-◌}
use Rattle.sg_wire.specs.FirstBytes.{first_bytes}
use Rattle.sg_wire.specs.declared.command.Command.{Command}
use Rattle.sg_wire.specs.declared.command.Command.TheVariants as command
use Rattle.sg_wire.specs.declared.command.diagnostic.LogSense.{LogSense}
use Rattle.sg_wire.specs.declared.command.report.ReportLuns.{ReportLuns}
use Rattle.sg_pages.specs.ProvisioningPages.{threshold_sets}
use Rattle.sg_pages.specs.Reports.{lists_unit, log_page_data, log_page_with}
use Rattle.sg_pages.specs.Reports.{report_data}
use Rattle.sg_pages.specs.declared.reports.LogPage.{LogPage}
use Rattle.sg_pages.specs.declared.reports.LogPage.TheVariants.{LogicalBlockProvisioning}
use Rattle.sg_pages.specs.declared.reports.Report.TheVariants as report
use Rattle.sg_target.specs.Charge.{step_by}
use Rattle.sg_target.specs.Demands.{demands, log_sense}
use Rattle.sg_target.specs.Refusal.{or_refused, when_sound}
use Rattle.sg_target.specs.State.{State, config_of, profile_of, resources_of}
use Rattle.sg_target.specs.Step.{Step}
use Rattle.sg_target.specs.declared.operation.Operation.{Operation}
use Rattle.sg_target.specs.declared.operation.Operation.TheVariants as operation
use Rattle.sg_target.specs.declared.refusal.Reason.TheVariants.{InvalidFieldInCdb}
use Rattle.sg_target.specs.declared.refusal.Refusal.TheVariants.{CheckCondition}
use Rattle.sg_target.specs.declared.reply.Status.TheVariants.{Good}
use Rattle.sg_target.proofs.LiftLemmas.{lifted, not_good}
use Rattle.sg_fencing.specs.Reports.{AsksForCounts, TheLogCountsThePool, TheOnlyUnitIsListed}
use Rattle.sg_fencing.specs.Reports.{log_of_counts, luns_of}

-- ---- REPORT LUNS

abbrev list_of : State → (listed : Bool) → List ℕ
list_of state listed =
    report_data (profile_of state) (resources_of state) (report.LogicalUnits listed)

none-listed : (found : Option Bool) (listed : Bool) → found ≡ None → found ≡ Some listed → ⊥
none-listed found listed none e = cc

lists-luns : (state : State) (select : ℕ) (listed : Bool) → lists_unit select ≡ Some listed
    → list_of state listed ≡ luns_of select
unfolding report_data
lists-luns state zero listed e = cc
lists-luns state (suc zero) listed e = cc
lists-luns state (suc (suc zero)) listed e = cc
lists-luns state (suc (suc (suc n))) listed e =
    let none : lists_unit (suc (suc (suc n))) ≡ None = grind (arith, nat_tests) in
    absurd (none-listed (lists_unit (suc (suc (suc n)))) listed none e)

record Lists (state : State) (c : ReportLuns) (asked : Operation) : Type 0 where
  listed : Bool
  is : operation.ReturnLuns listed c.allocation_length ≡ asked
  luns : list_of state listed ≡ luns_of c.select

asked-luns : (state : State) (c : ReportLuns) (asked : Operation) (listed : Option Bool)
    → lists_unit c.select ≡ listed
    → when_sound (ok_or listed (CheckCondition (InvalidFieldInCdb 2)))
    (λ listed. operation.ReturnLuns listed c.allocation_length) ≡ Ok asked → Lists state c asked
asked-luns state c asked None e same = cc
asked-luns state c asked (Some listed) e same = record {
  listed = listed;
  is = cc;
  luns = lists-luns state c.select listed e;
}

abbrev ListsIfGood : ReportLuns → Step → Type 0
ListsIfGood c done =
    done.answer.status ≡ Good → done.answer.data_in ≡ first_bytes c.allocation_length (luns_of c.select)

operation-lists : (state : State) (i : ℕ) (c : ReportLuns) (asked : Operation) → Lists state c asked
    → ListsIfGood c (step_by state i asked)
operation-lists state i c asked w =
    subst (λ (o : Operation). ListsIfGood c (step_by state i o)) w.is
    (λ good. ap (first_bytes c.allocation_length) w.luns)

pub unit-listed : TheOnlyUnitIsListed
unit-listed state i cdb data_out c is =
    lifted state i cdb data_out (ListsIfGood c) (λ refusal good. absurd (not_good state i refusal good))
    (λ asked k.
    let same : k.command ≡ command.ReportLuns c = cc in
    operation-lists state i c asked (asked-luns state c asked (lists_unit c.select) refl
    (subst (λ (d : Command). (demands (config_of state) d data_out).operation ≡ Ok asked) same
    k.operation_is)))

-- ---- LOG SENSE of page 0Ch

abbrev counts_of : State → List ℕ
counts_of state =
    let used = len state.disk.contents in
    let sets = threshold_sets (profile_of state) state.disk.capacity in
    log_of_counts (sets (state.disk.pool - used)) (sets used)

logged-counts : (state : State) (pointer : ℕ) → pointer ≡ 0
    → report_data (profile_of state) (resources_of state) (report.Log LogicalBlockProvisioning pointer)
    ≡ counts_of state
unfolding report_data log_page_data
logged-counts state pointer e = rw e refl

record Counts (c : LogSense) (asked : Operation) : Type 0 where
  is : operation.ReturnReport (report.Log LogicalBlockProvisioning c.parameter_pointer)
      c.allocation_length ≡ asked

asked-page : (c : LogSense) (asked : Operation) (found : Result LogPage ℕ)
    → found ≡ Ok LogicalBlockProvisioning
    → when_sound (or_refused (λ byte. CheckCondition (InvalidFieldInCdb byte)) found)
    (λ page. operation.ReturnReport (report.Log page c.parameter_pointer) c.allocation_length) ≡ Ok asked
    → Counts c asked
asked-page c asked (Ok page) e same = record { is = cc }
asked-page c asked (Err byte) e same = cc

asked-counts : (c : LogSense) (asked : Operation) → AsksForCounts c → (log_sense c).operation ≡ Ok asked
    → Counts c asked
asked-counts c asked w same =
    let found : log_page_with c.page_code c.subpage_code c.parameter_pointer
    ≡ Ok LogicalBlockProvisioning = rw (w.page, w.subpage, w.pointer) refl in
    asked-page c asked (log_page_with c.page_code c.subpage_code c.parameter_pointer) found same

abbrev CountsIfGood : State → LogSense → Step → Type 0
CountsIfGood state c done =
    done.answer.status ≡ Good → done.answer.data_in ≡ first_bytes c.allocation_length (counts_of state)

operation-counts : (state : State) (i : ℕ) (c : LogSense) (asked : Operation) → AsksForCounts c
    → Counts c asked → CountsIfGood state c (step_by state i asked)
operation-counts state i c asked w k =
    subst (λ (o : Operation). CountsIfGood state c (step_by state i o)) k.is
    (λ good. ap (first_bytes c.allocation_length) (logged-counts state c.parameter_pointer w.pointer))

pub pool-counted : TheLogCountsThePool
pool-counted state i cdb data_out c is w =
    lifted state i cdb data_out (CountsIfGood state c)
    (λ refusal good. absurd (not_good state i refusal good))
    (λ asked k.
    let same : k.command ≡ command.LogSense c = cc in
    operation-counts state i c asked w (asked-counts c asked w
    (subst (λ (d : Command). (demands (config_of state) d data_out).operation ≡ Ok asked) same
    k.operation_is)))
