-- Which commands are of SBC-3, and which of SPC-4.
use Rattle.std.specs.Prelude.{Bool, true, false}
use Rattle.sg_wire.specs.declared.command.Command.{Command}
use Rattle.sg_wire.specs.declared.command.Command.TheVariants as command

-- The commands of SBC-3 (and READ(6) and WRITE(6) of SBC-2). Those of SPC-4 are primary commands.
abbrev pub is_block_command : Command → Bool
is_block_command command.TestUnitReady = false
is_block_command (command.RequestSense c) = false
is_block_command (command.Inquiry c) = false
is_block_command (command.ModeSelect6 c) = false
is_block_command (command.ModeSelect10 c) = false
is_block_command (command.ModeSense6 c) = false
is_block_command (command.ModeSense10 c) = false
is_block_command (command.LogSense c) = false
is_block_command (command.ReportLuns c) = false
is_block_command (command.ReportSupportedOperationCodes c) = false
is_block_command (command.ReportSupportedTaskManagementFunctions c) = false
is_block_command (command.ReportTargetPortGroups c) = false
is_block_command (command.SendDiagnostic c) = false
is_block_command (command.ExtendedCopy c) = false
is_block_command (command.ReceiveCopyOperatingParameters c) = false
is_block_command (command.PersistentReserveIn c) = false
is_block_command (command.PersistentReserveOut c) = false
is_block_command command = true
