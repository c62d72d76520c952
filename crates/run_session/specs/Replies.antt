-- What a call of the pool answers, as a reply.
use Rattle.script_lang.specs.declared.reply.Reply.{Reply}
use Rattle.script_lang.specs.declared.reply.Reply.TheVariants.{Done, Exists, NoBlock, Writing, Waiting, Unsure, Full, TooLong, Worn, Failed, Memory}
use Rattle.client_ops.specs.declared.writing.OpReply.{OpReply}
use Rattle.client_ops.specs.declared.writing.OpReply.TheVariants.{Ok as EndsOk, Failed as EndsFailed, Memory as EndsMemory}
use Rattle.pool_state.specs.declared.start_fault.StartFault.{StartFault}
use Rattle.pool_state.specs.declared.start_fault.StartFault.TheVariants.{Exists as WasThere, None as WasAbsent, Writing as WasWriting, Waiting as WasWaiting, Unsure as WasUnsure, Full as IsFull, TooLong as IsTooLong, Worn as IsWorn, Failed as HasFailed, Memory as NoMemory}
use Rattle.pool_state.specs.declared.deleting.DeleteFault.{DeleteFault}
use Rattle.pool_state.specs.declared.deleting.DeleteFault.TheVariants.{None as NotThere, Writing as IsWrittenNow, Failed as RemovalFailed}

-- why a start was refused, as a reply
abbrev pub refusal_reply : StartFault → Reply
refusal_reply WasThere = Exists
refusal_reply WasAbsent = NoBlock
refusal_reply WasWriting = Writing
refusal_reply WasWaiting = Waiting
refusal_reply WasUnsure = Unsure
refusal_reply (IsFull need free) = Full need free
refusal_reply (IsTooLong limit) = TooLong limit
refusal_reply IsWorn = Worn
refusal_reply HasFailed = Failed
refusal_reply NoMemory = Memory

-- why a block was not deleted, as a reply
abbrev pub deletion_reply : DeleteFault → Reply
deletion_reply NotThere = NoBlock
deletion_reply IsWrittenNow = Writing
deletion_reply RemovalFailed = Failed

-- the answer to a whole write, as a reply
abbrev pub end_reply : OpReply → Reply
end_reply EndsOk = Done
end_reply EndsFailed = Failed
end_reply EndsMemory = Memory
