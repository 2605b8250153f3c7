use Rattle.std.proofs.Common.{◌≡◌, ◌≤◌, ℕ, ap, le_of_eq, sym, subst, Result, Ok, Err, IfOk}
use Rattle.std.specs.declared.alloc.AllocError.{AllocError}
use Rattle.jop_outside.specs.Outside.{HasRisen}
use Rattle.jop_target.specs.declared.call.Call.{Call}
use Rattle.jop_target.specs.declared.reply.Reply.{Reply}
use Rattle.jop_target.specs.declared.reply.Reply.TheVariants.{Failed}
use Rattle.target_files.specs.Folders.{FolderNow}
use Rattle.target_files.specs.Outcome.{IsAnswerTo, Counts}
use Rattle.target_files.specs.declared.trouble.Trouble.{Trouble}
use Rattle.target_files.specs.declared.trouble.Trouble.TheVariants.{Fault, NoMemory}
use Rattle.target_files.proofs.folder_target.FolderTargetTarget.call.Goals as goal

failed : (call : Call) (before after : ℕ) (answer : Result Reply Trouble) (result : Result Reply AllocError)
    → IfOk answer (IsAnswerTo call) → Counts before answer result after → result ≡ Ok Failed → HasRisen before after
failed call before after (Ok reply) result fits counts is =
    let same : reply ≡ Failed = cc (counts.0, is) in
    absurd (subst (IsAnswerTo call) same fits)
failed call before after (Err Fault) result fits counts is = le_of_eq (sym counts.1)
failed call before after (Err NoMemory) result fits counts is = cc (counts.0, is)

stays : (before after : ℕ) (answer : Result Reply Trouble) (result : Result Reply AllocError)
    → Counts before answer result after → ¬ (result ≡ Ok Failed) → after ≡ before
stays before after (Ok reply) result counts other = counts.1
stays before after (Err Fault) result counts other = absurd (other counts.0)
stays before after (Err NoMemory) result counts other = counts.1

pub returns-clause-cause : goal.returns-clause-cause
returns-clause-cause g c =
    let same : c.answer-answer.new.self.faults ≡ c.args.self.now.faults = ap (λ (n : FolderNow). n.faults) c.answer-answer.ensures.stays in
    let counts : Counts c.args.self.now.faults c.answer-answer.result c.counted.result c.counted.new.self.faults =
    subst (λ (n : ℕ). Counts n c.answer-answer.result c.counted.result c.counted.new.self.faults) same c.counted.ensures.counts in
    record {
      later = subst (λ (n : ℕ). n ≤ c.counted.new.self.faults) same c.counted.ensures.later;
      failed = failed c.args.call.now _ _ c.answer-answer.result _ c.answer-answer.ensures.fits counts;
      stays = stays _ _ c.answer-answer.result _ counts;
    }
