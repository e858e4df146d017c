-- The key of an initiator.
mod KeyLemmas
-- Reservations of one holder.
mod HolderLemmas
-- The effect of PERSISTENT RESERVE OUT on a reservation.
mod ReserveOutLemmas
mod OwnReserveOutLemmas
-- From a command to its operation.
mod OperationLemmas
mod ReadLemmas
mod DiskLemmas
mod UnitLemmas
mod NoAlertLemmas
mod SpaceLemmas
mod WriteLemmas
mod ExchangeLemmas
mod FreeExchangeLemmas
mod MiscompareLemmas
mod VerifyLemmas
-- Commands of others.
mod AccessLemmas
mod OthersLemmas
mod StandingLemmas
mod UnseenLemmas
mod DataLemmas
-- A command in two states that look alike to its initiator.
mod AlikeLemmas
-- Commands of the holder.
mod OwnLemmas
-- Initiators that are not registered.
mod MovedLemmas
mod RegistrationLemmas
mod OutsiderLemmas
mod NewcomerLemmas
mod RegisteringLemmas
mod RoomLemmas
mod TogetherLemmas
mod HandOverLemmas
mod OldKeyLemmas
mod PreemptLemmas
-- Registrants and others.
mod AgreeLemmas
mod GroupLemmas
mod InsideLemmas
-- REPORT LUNS and LOG SENSE.
mod ReportLemmas
-- Lists of commands.
mod RaceLemmas
mod OutsiderRunLemmas
mod UnseenRunLemmas
mod FencedRunLemmas
mod PowerLemmas
mod PersistLemmas
mod PoweredRunLemmas
-- A stopped unit.
mod StoppingLemmas
-- Armed faults.
mod FaultUnseenLemmas
mod FaultsLeftLemmas
mod FaultLemmas
mod FaultRunLemmas
