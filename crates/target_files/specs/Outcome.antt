-- What becomes of a folder's answer.
use Rattle.std.specs.Prelude.{ℕ, ◌+◌, ◌-◌, ◌^◌, ◌≡◌, min, List, length, Result, Ok, Err, alloc_error}
use Rattle.std.specs.declared.alloc.AllocError.{AllocError}
use Rattle.jop_target.specs.Replies.{IsReplyTo}
use Rattle.jop_target.specs.declared.call.Call.{Call}
use Rattle.jop_target.specs.declared.reply.Reply.{Reply}
use Rattle.jop_target.specs.declared.reply.Reply.TheVariants.{GotBlob, Failed}
use Rattle.target_files.specs.declared.trouble.Trouble.{Trouble}
use Rattle.target_files.specs.declared.trouble.Trouble.TheVariants.{Fault, NoMemory}

-- a reply that fits the call, and isn't `Failed`
abbrev pub IsAnswerTo : Call → Reply → Type 0
IsAnswerTo call Failed = ⊥
IsAnswerTo call reply = IsReplyTo call reply

-- only a blob that was got changes the bytes that travel beside a call, and its reply tells their number
abbrev pub LeavesBlob : List ℕ → Result Reply Trouble → List ℕ → Type 0
LeavesBlob before (Ok (GotBlob now len)) after = len ≡ length after
LeavesBlob before answer after = after ≡ before

-- A reply stays as it is. A fault raises the count and is `Failed`, nothing else does or is. Want of memory is no
-- fault.
abbrev pub Counts : ℕ → Result Reply Trouble → Result Reply AllocError → ℕ → Type 0
Counts before (Ok reply) result after = (result ≡ Ok reply) × (after ≡ before)
Counts before (Err Fault) result after = (result ≡ Ok Failed) × (after ≡ min (before + 1) (2 ^ 64 - 1))
Counts before (Err NoMemory) result after = (result ≡ Err alloc_error) × (after ≡ before)
