use Rattle.sg_decode.proofs.ItemLemmas.{one_line}
use Rattle.sg_decode.proofs.entry.EntryKind.put_text.Goals as goal

pub returns-in-SupportedPages : goal.returns-in-SupportedPages
returns-in-SupportedPages g c = rw c.in-SupportedPages.is (one_line _ _ _ _ c.put_line.ensures)

pub returns-in-Designators : goal.returns-in-Designators
returns-in-Designators g c =
    rw (c.in-Designators.is, ← c.designator_line.ensures.line)
    (one_line _ _ _ _ c.put_line-in-Designators.ensures)

pub returns-in-LbaStatusDescriptors : goal.returns-in-LbaStatusDescriptors
returns-in-LbaStatusDescriptors g c =
    rw c.in-LbaStatusDescriptors.is (one_line _ _ _ _ c.put_line-in-LbaStatusDescriptors.ensures)

pub returns-in-ReservationKeys : goal.returns-in-ReservationKeys
returns-in-ReservationKeys g c =
    rw c.in-ReservationKeys.is (one_line _ _ _ _ c.put_line-in-ReservationKeys.ensures)

pub returns-in-FullStatusDescriptors : goal.returns-in-FullStatusDescriptors
returns-in-FullStatusDescriptors g c =
    rw c.in-FullStatusDescriptors.is
    (one_line _ _ _ _ c.put_line-in-FullStatusDescriptors.ensures)

pub returns-in-ExtendedFullStatusDescriptors : goal.returns-in-ExtendedFullStatusDescriptors
returns-in-ExtendedFullStatusDescriptors g c =
    rw c.in-ExtendedFullStatusDescriptors.is
    (one_line _ _ _ _ c.put_line-in-ExtendedFullStatusDescriptors.ensures)

pub returns-in-Luns : goal.returns-in-Luns
returns-in-Luns g c =
    rw c.in-Luns.is (one_line _ _ _ _ c.put_line-in-Luns.ensures)

pub returns-in-Timeouts : goal.returns-in-Timeouts
returns-in-Timeouts g c =
    rw c.in-Timeouts.is (one_line _ _ _ _ c.put_line-in-Timeouts.ensures)

pub returns-in-LogPages : goal.returns-in-LogPages
returns-in-LogPages g c =
    rw c.in-LogPages.is (one_line _ _ _ _ c.put_line-in-LogPages.ensures)

pub returns-in-LogSubpages : goal.returns-in-LogSubpages
returns-in-LogSubpages g c =
    rw c.in-LogSubpages.is (one_line _ _ _ _ c.put_line-in-LogSubpages.ensures)

pub returns-in-LogParameters : goal.returns-in-LogParameters
returns-in-LogParameters g c =
    rw c.in-LogParameters.is (one_line _ _ _ _ c.put_line-in-LogParameters.ensures)

pub returns-in-ModePagePolicies : goal.returns-in-ModePagePolicies
returns-in-ModePagePolicies g c =
    rw c.in-ModePagePolicies.is (one_line _ _ _ _ c.put_line-in-ModePagePolicies.ensures)

pub returns-in-ScsiPorts : goal.returns-in-ScsiPorts
returns-in-ScsiPorts g c =
    rw c.in-ScsiPorts.is (one_line _ _ _ _ c.put_line-in-ScsiPorts.ensures)

pub returns-in-LogExceptions : goal.returns-in-LogExceptions
returns-in-LogExceptions g c = rw c.in-LogExceptions.is c.put_log_parameter.ensures

pub returns-in-LogResourceCounts : goal.returns-in-LogResourceCounts
returns-in-LogResourceCounts g c =
    rw c.in-LogResourceCounts.is c.put_log_parameter-in-LogResourceCounts.ensures

pub returns-in-ShortDefects : goal.returns-in-ShortDefects
returns-in-ShortDefects g c =
    rw c.in-ShortDefects.is (one_line _ _ _ _ c.put_line-in-ShortDefects.ensures)

pub returns-in-LongDefects : goal.returns-in-LongDefects
returns-in-LongDefects g c =
    rw c.in-LongDefects.is (one_line _ _ _ _ c.put_line-in-LongDefects.ensures)
