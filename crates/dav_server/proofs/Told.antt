-- What a reply tells of the moment, and what becomes of a call whose reply isn't told.
use Rattle.std.proofs.Common.{◌≡◌, ◌≤◌, ◌⊎◌, refl, sym, subst, inl, inr, arith, ℕ, List, max, Some, Result, Err}
use Rattle.std.specs.declared.alloc.AllocError.{AllocError}
use Rattle.jop_base.specs.Times.{last_time}
use Rattle.jop_target.specs.Replies.{IsReplyTo}
use Rattle.jop_target.specs.Trail.{LineNow, Asks, IsAnswered, IsUnheard, moment_of}
use Rattle.jop_target.specs.declared.call.Call.{Call}
use Rattle.jop_target.specs.declared.call.Call.TheVariants.{List as ListDir, Get, Put, Delete, MakeDir, GetBlob, PutBlob}
use Rattle.jop_target.specs.declared.reply.Reply.{Reply}
use Rattle.jop_target.proofs.Replies.{listed_or_failed, got_absent_or_failed, done_or_failed, done_absent_or_failed, made_or_failed, got_blob_absent_or_failed, blob_done_or_failed}
use Rattle.dav_wire.specs.ResponseTexts.{IsResponseTo}
use Rattle.dav_server.specs.Serving.{HasAnswered, IsUntold, later_date}

max_early : (a b c : ℕ) → a ≤ c → b ≤ c → max a b ≤ c
max_early a b c h k = omega arith

pub later_early : (call : Call) (reply : Reply) (date : ℕ) → date ≤ last_time
    → IsReplyTo call reply → later_date date (moment_of reply) ≤ last_time
later_early (ListDir dir) reply date early shape =
    let P : Reply → Type 0 = λ r. later_date date (moment_of r) ≤ last_time in
    listed_or_failed P dir early (λ l h. max_early date l.now last_time early h.now) reply shape
later_early (Get path) reply date early shape =
    let P : Reply → Type 0 = λ r. later_date date (moment_of r) ≤ last_time in
    got_absent_or_failed P path early
    (λ now content n fits. max_early date now last_time early n)
    (λ now n. max_early date now last_time early n) (λ len long. early) reply shape
later_early (Put path content) reply date early shape =
    let P : Reply → Type 0 = λ r. later_date date (moment_of r) ≤ last_time in
    done_or_failed P path content early (λ now n. max_early date now last_time early n) reply shape
later_early (Delete path) reply date early shape =
    let P : Reply → Type 0 = λ r. later_date date (moment_of r) ≤ last_time in
    done_absent_or_failed P path early (λ now n. max_early date now last_time early n)
    (λ now n. max_early date now last_time early n) reply shape
later_early (MakeDir dir) reply date early shape =
    let P : Reply → Type 0 = λ r. later_date date (moment_of r) ≤ last_time in
    made_or_failed P dir early (λ now n. max_early date now last_time early n) reply shape
later_early (GetBlob id) reply date early shape =
    let P : Reply → Type 0 = λ r. later_date date (moment_of r) ≤ last_time in
    got_blob_absent_or_failed P id early
    (λ now len n fits. max_early date now last_time early n)
    (λ now n. max_early date now last_time early n) (λ len long. early) reply shape
later_early (PutBlob id len) reply date early shape =
    let P : Reply → Type 0 = λ r. later_date date (moment_of r) ≤ last_time in
    blob_done_or_failed P id len early (λ now n. max_early date now last_time early n) reply shape

-- ---- one call

pub call_answered : (call asked : Call) (blob : List ℕ) (line after : LineNow) (date last : ℕ)
    (text bytes : List ℕ) (reply told : Reply) → asked ≡ call
    → IsAnswered line call blob after bytes reply → told ≡ reply
    → IsResponseTo asked told bytes date text → last ≡ later_date date (moment_of told)
    → HasAnswered call blob line date text after last
call_answered call asked blob line after date last text bytes reply told same made is text_is at =
    record {
      reply = reply;
      bytes = bytes;
      made = made;
      told = subst (λ (c : Call). IsResponseTo c reply bytes date text) same
          (subst (λ (r : Reply). IsResponseTo asked r bytes date text) is text_is);
      moment = subst (λ (r : Reply). last ≡ later_date date (moment_of r)) is at;
    }

pub call_unheard : (call : Call) (blob : List ℕ) (line after : LineNow) (bytes : List ℕ)
    (e : AllocError) → IsUnheard line call blob after bytes e
    → (after ≡ line) ⊎ ((made : Call) × (Some call ≡ Some made) × IsUntold made blob line after)
call_unheard call blob line after bytes e (inl same) = inl same.0
call_unheard call blob line after bytes e (inr sent) =
    inr (call, refl, (bytes, inr (e, sent)))

pub call_untold : (call : Call) (blob : List ℕ) (line after : LineNow) (bytes : List ℕ)
    (reply : Reply) → IsAnswered line call blob after bytes reply
    → (after ≡ line) ⊎ ((made : Call) × (Some call ≡ Some made) × IsUntold made blob line after)
call_untold call blob line after bytes reply made =
    inr (call, refl, (bytes, inl (reply, made)))

pub call_fails : (call : Call) (blob : List ℕ) (line after : LineNow) (bytes : List ℕ)
    (r : Result (Unit {0}) AllocError) (e : AllocError) → Asks line call blob r after bytes
    → r ≡ Err e
    → (after ≡ line) ⊎ ((made : Call) × (Some call ≡ Some made) × IsUntold made blob line after)
call_fails call blob line after bytes r e asks is =
    let A : Result (Unit {0}) AllocError → Type 0 = λ x. Asks line call blob x after bytes in
    call_unheard call blob line after bytes e (subst A is asks)

pub shape_as : (call asked : Call) (reply told : Reply) → asked ≡ call → told ≡ reply
    → IsReplyTo call reply → IsReplyTo asked told
shape_as call asked reply told same is shape =
    subst (λ (c : Call). IsReplyTo c told) (sym same)
    (subst (λ (r : Reply). IsReplyTo call r) (sym is) shape)
