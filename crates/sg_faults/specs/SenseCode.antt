-- Sense keys with additional sense codes.
use Rattle.std.specs.Prelude.{ℕ, ◌==◌, List, [], ◌∷◌, Option, find, option_map}
use Rattle.sg_faults.specs.declared.sense_code.SenseCode.{SenseCode}
use Rattle.sg_faults.specs.declared.sense_code.SenseKey.{SenseKey}
use Rattle.sg_faults.specs.declared.sense_code.SenseKey.TheVariants.{NoSense, RecoveredError}
use Rattle.sg_faults.specs.declared.sense_code.SenseKey.TheVariants.{NotReady, MediumError}
use Rattle.sg_faults.specs.declared.sense_code.SenseKey.TheVariants.{HardwareError, IllegalRequest}
use Rattle.sg_faults.specs.declared.sense_code.SenseKey.TheVariants.{UnitAttention, DataProtect}
use Rattle.sg_faults.specs.declared.sense_code.SenseKey.TheVariants.{BlankCheck, VendorSpecific}
use Rattle.sg_faults.specs.declared.sense_code.SenseKey.TheVariants.{CopyAborted, AbortedCommand}
use Rattle.sg_faults.specs.declared.sense_code.SenseKey.TheVariants.{VolumeOverflow, Miscompare}
use Rattle.sg_faults.specs.declared.sense_code.SenseKey.TheVariants.{Completed}

-- The sense keys (SPC-4, 4.5.6). Ch is reserved.
abbrev pub key_code : SenseKey → ℕ
key_code NoSense = 0x0
key_code RecoveredError = 0x1
key_code NotReady = 0x2
key_code MediumError = 0x3
key_code HardwareError = 0x4
key_code IllegalRequest = 0x5
key_code UnitAttention = 0x6
key_code DataProtect = 0x7
key_code BlankCheck = 0x8
key_code VendorSpecific = 0x9
key_code CopyAborted = 0xA
key_code AbortedCommand = 0xB
key_code VolumeOverflow = 0xD
key_code Miscompare = 0xE
key_code Completed = 0xF

abbrev pub each_key : List SenseKey
each_key =
    NoSense ∷ RecoveredError ∷ NotReady ∷ MediumError ∷ HardwareError ∷ IllegalRequest
    ∷ UnitAttention ∷ DataProtect ∷ BlankCheck ∷ VendorSpecific ∷ CopyAborted ∷ AbortedCommand
    ∷ VolumeOverflow ∷ Miscompare ∷ Completed ∷ []

abbrev pub key_with_code : (code : ℕ) → Option SenseKey
key_with_code code = find (λ key. key_code key == code) each_key

abbrev pub sense_code : SenseKey → (asc ascq : ℕ) → SenseCode
sense_code key asc ascq = record { key = key; asc = asc; ascq = ascq }

-- The sense code with these numbers, if there is such a key.
abbrev pub sense_code_of : (key asc ascq : ℕ) → Option SenseCode
sense_code_of key asc ascq = option_map (λ k. sense_code k asc ascq) (key_with_code key)
