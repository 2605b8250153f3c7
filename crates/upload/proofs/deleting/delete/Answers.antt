use Rattle.jop_target.specs.declared.call.Call.TheVariants.{Delete}
use Rattle.session.proofs.Behind.{hears_as}
use Rattle.upload.proofs.Deleted.{gone_by}
use Rattle.upload.specs.Deleting.{DeletesFile, is_deletion}
use Rattle.upload.proofs.deleting.delete.Goals as goal

pub returns : goal.returns
returns g c = record {
  ends = let path = c.args.path in
      hears_as (Delete path) (DeletesFile path) is_deletion _ _ _
      (λ reply answer shown ds it. (reply, gone_by path reply answer.0 answer.1, it))
      (c.ask.ensures.ends is_deletion c.requires.may.sort);
}
