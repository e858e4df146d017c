-- The text of the bytes of an answer.
use Rattle.std.specs.Prelude.{ℕ, List, [], true, false}
use Rattle.sg_decode.specs.Capacity.{capacity_10, capacity_16}
use Rattle.sg_decode.specs.DefectData.{defects_10, defects_12}
use Rattle.sg_decode.specs.HexText.{hex_lines}
use Rattle.sg_decode.specs.Inquiry.{extended_inquiry, inquiry}
use Rattle.sg_decode.specs.Items.{decoded}
use Rattle.sg_decode.specs.LbaStatus.{lba_status}
use Rattle.sg_decode.specs.LogPages.{log_page}
use Rattle.sg_decode.specs.ModeParameters.{mode_parameters}
use Rattle.sg_decode.specs.PersistentReservation.{capabilities, full_status, keys}
use Rattle.sg_decode.specs.PersistentReservation.{extended_capabilities, extended_full_status}
use Rattle.sg_decode.specs.PersistentReservation.{reservation}
use Rattle.sg_decode.specs.ReportLuns.{luns}
use Rattle.sg_decode.specs.SenseText.{extended_sense_line, sense_line}
use Rattle.sg_decode.specs.SupportedOperations.{all_commands, one_command, task_management}
use Rattle.sg_decode.specs.VitalProductData.{extended_vital_product_data, vital_product_data}
use Rattle.sg_wire.specs.declared.command.mode.CdbWidth.TheVariants.{Six, Ten}
use Rattle.sg_tools.specs.declared.show.Show.{Show}
use Rattle.sg_tools.specs.declared.show.Show.TheVariants as show

abbrev pub answer_text : Show → (data_in : List ℕ) → List ℕ
answer_text show.Nothing data_in = []
answer_text show.Hex data_in = hex_lines data_in
answer_text show.Inquiry data_in = decoded inquiry data_in
answer_text show.Vpd data_in = decoded vital_product_data data_in
answer_text show.Modes6 data_in = decoded (mode_parameters Six) data_in
answer_text show.Modes10 data_in = decoded (mode_parameters Ten) data_in
answer_text show.LbaStatus data_in = decoded (lba_status false) data_in
answer_text show.LbaStatusBrief data_in = decoded (lba_status true) data_in
answer_text show.Keys data_in = decoded keys data_in
answer_text show.Reservation data_in = decoded reservation data_in
answer_text show.Capabilities data_in = decoded capabilities data_in
answer_text show.FullStatus data_in = decoded full_status data_in
answer_text show.Sense data_in = sense_line data_in
answer_text show.ExtendedInquiry data_in = decoded extended_inquiry data_in
answer_text show.ExtendedVpd data_in = decoded extended_vital_product_data data_in
answer_text show.ExtendedSense data_in = extended_sense_line data_in
answer_text show.Luns data_in = decoded luns data_in
answer_text show.AllCommands data_in = decoded all_commands data_in
answer_text show.OneCommand data_in = decoded one_command data_in
answer_text show.TaskManagement data_in = decoded task_management data_in
answer_text show.LogPage data_in = decoded log_page data_in
answer_text show.Capacity10 data_in = decoded capacity_10 data_in
answer_text show.Capacity16 data_in = decoded capacity_16 data_in
answer_text show.Defects10 data_in = decoded defects_10 data_in
answer_text show.Defects12 data_in = decoded defects_12 data_in
answer_text show.ExtendedCapabilities data_in = decoded extended_capabilities data_in
answer_text show.ExtendedFullStatus data_in = decoded extended_full_status data_in
