-- Faults of calls on uploads.
use Rattle.s3_types.specs.declared.reply.Refusal.{Refusal}
use Rattle.multipart.specs.declared.fault.UploadFault.{UploadFault}
use Rattle.multipart.specs.declared.fault.UploadFault.TheVariants.{Refused, NoMemory}

-- If the fault is a refusal, it has P. Memory may run out at any time.
abbrev pub IfRefused : UploadFault → (Refusal → Type 0) → Type 0
IfRefused (Refused r) P = P r
IfRefused NoMemory P = Unit {0}
