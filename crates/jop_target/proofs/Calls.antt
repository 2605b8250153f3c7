-- A call on a target in memory fails only if it was to.
use Rattle.std.proofs.Common.{◌≡◌, ◌≤◌, refl, arith, ℕ, length, Option, Some, None, Bool, Ok}
use Rattle.std.specs.Prelude.{nat_lt}
use Rattle.std.proofs.lemmas.Bool.{cond_both}
use Rattle.jop_outside.specs.Plan.{next_fate}
use Rattle.jop_base.specs.declared.path.Path.TheVariants.{Blob}
use Rattle.jop_target.specs.declared.call.Call.{Call}
use Rattle.jop_target.specs.declared.call.Call.TheVariants.{Get, Delete, GetBlob}
use Rattle.jop_target.specs.declared.reply.Reply.{Reply}
use Rattle.jop_target.specs.declared.reply.Reply.TheVariants.{Got, GotBlob, Failed, TooLarge}
use Rattle.jop_target.specs.declared.tree.Content.{Content}
use Rattle.jop_target.specs.declared.tree.Content.TheVariants.{Whole, Sized}
use Rattle.jop_target.specs.declared.tree.File.{File}
use Rattle.jop_target.specs.declared.tree.Tree.{Tree}
use Rattle.jop_target.specs.Memory.{faults_after}
use Rattle.jop_target.specs.Replies.{HasReplyCause}
use Rattle.jop_target.specs.Store.{Store, file_at, got, got_blob, got_content, got_size, deleted, limit_of, fated, reply_of, store_reply}

-- ---- a call fails only if it was to

content_answered : (now limit : ℕ) (content : Content) → ¬ (got_content now limit content ≡ Failed)
content_answered now limit (Whole bytes) =
    cond_both (nat_lt limit (length bytes)) (TooLarge (length bytes)) (Got now bytes)
    (λ (r : Reply). ¬ (r ≡ Failed))
    (λ long is. cc)
    (λ short is. cc)
content_answered now limit (Sized len) = λ is. cc

size_answered : (now limit : ℕ) (content : Content) → ¬ (got_size now limit content ≡ Failed)
size_answered now limit (Whole bytes) = λ is. cc
size_answered now limit (Sized len) =
    cond_both (nat_lt limit len) (TooLarge len) (GotBlob now len) (λ (r : Reply). ¬ (r ≡ Failed))
    (λ long is. cc)
    (λ short is. cc)

got_answered : (now limit : ℕ) (o : Option File) → ¬ (got now limit o ≡ Failed)
got_answered now limit None is = cc
got_answered now limit (Some f) is = content_answered now limit f.content is

blob_answered : (now limit : ℕ) (o : Option File) → ¬ (got_blob now limit o ≡ Failed)
blob_answered now limit None is = cc
blob_answered now limit (Some f) is = size_answered now limit f.content is

delete_answered : (now : ℕ) (o : Option File) → ¬ (deleted now o ≡ Failed)
delete_answered now None is = cc
delete_answered now (Some f) is = cc

answered : (tree : Tree) (now : ℕ) (call : Call) → ¬ (reply_of tree now call ≡ Failed)
unfolding reply_of
answered tree now (Get path) is = got_answered now (limit_of path) (file_at tree.files path) is
answered tree now (GetBlob id) is =
    blob_answered now (limit_of (Blob id)) (file_at tree.files (Blob id)) is
answered tree now (Delete path) is = delete_answered now (file_at tree.files path) is
answered tree now call is = cc

pub has_cause : (s : Store) (call : Call) (before after : ℕ) →
    before ≤ after → after ≡ faults_after (next_fate s.plan) before →
    HasReplyCause before (Ok (store_reply s call)) after
has_cause s call before after later is = by (next_fate s.plan) is where
  by : (fate : Option Bool) → after ≡ faults_after fate before →
      HasReplyCause before (Ok (fated fate (reply_of s.contents.tree s.moment call))) after
  by None is = record {
    later = later;
    failed = λ failed. absurd (answered s.contents.tree s.moment call (cc));
    stays = λ other. is;
  }
  by (Some landed) is = record {
    later = later;
    failed = λ failed. omega arith;
    stays = λ other. absurd (other refl);
  }
