-- Responses that are written piece by piece.
use Rattle.std.proofs.Common.{◌≡◌, ℕ, List, ◌++◌, refl, ap, subst, ◌∙◌, append_assoc}
use Rattle.jop_base.specs.declared.dir.Dir.{Dir}
use Rattle.jop_target.specs.Replies.{IsReplyTo}
use Rattle.jop_target.specs.declared.call.Call.{Call}
use Rattle.jop_target.specs.declared.call.Call.TheVariants as calls
use Rattle.jop_target.specs.declared.reply.Listing.{Listing}
use Rattle.jop_target.specs.declared.reply.Reply.{Reply}
use Rattle.jop_target.specs.declared.reply.Reply.TheVariants as replies
use Rattle.dav_wire.specs.ResponseTexts.{IsResponse, IsBodyOf, plain_body}

pub joined : (t u v w x a b c d e : List ℕ) → t ≡ a → u ≡ t ++ b → v ≡ u ++ c → w ≡ v ++ d
    → x ≡ w ++ e → x ≡ a ++ (b ++ (c ++ (d ++ e)))
joined t u v w x a b c d e t-is u-is v-is w-is x-is =
    let pieces : x ≡ (((a ++ b) ++ c) ++ d) ++ e =
    x-is ∙ ap (λ (s : List ℕ). s ++ e) (w-is ∙ ap (λ (s : List ℕ). s ++ d) (v-is
    ∙ ap (λ (s : List ℕ). s ++ c) (u-is ∙ ap (λ (s : List ℕ). s ++ b) t-is))) in
    pieces ∙ simp append_assoc

pub response_same : (s t m n : ℕ) (b c text : List ℕ) → s ≡ t → m ≡ n → b ≡ c
    → IsResponse s m b text → IsResponse t n c text
response_same s t m n b c text status moment body h =
    subst (λ (x : ℕ). IsResponse x n c text) status (subst (λ (x : ℕ). IsResponse s x c text) moment
    (subst (λ (x : List ℕ). IsResponse s m x text) body h))

-- ---- which body tells a reply

pub listed_only : (call : Call) (listing : Listing) → IsReplyTo call (replies.Listed listing)
    → ((dir : Dir) → call ≡ calls.List dir → ⊥) → ⊥
listed_only (calls.List dir) listing h none = none dir refl
listed_only (calls.Get path) listing h none = h
listed_only (calls.Put path content) listing h none = h
listed_only (calls.Delete path) listing h none = h
listed_only (calls.MakeDir dir) listing h none = h
listed_only (calls.GetBlob id) listing h none = h
listed_only (calls.PutBlob id len) listing h none = h

pub plain_told : (call : Call) (reply : Reply) (blob : List ℕ)
    → ((listing : Listing) → reply ≡ replies.Listed listing → ⊥)
    → IsBodyOf call reply blob (plain_body reply blob)
plain_told call (replies.Listed listing) blob none = absurd (none listing refl)
plain_told call (replies.Got now content) blob none = refl
plain_told call (replies.GotBlob now len) blob none = refl
plain_told call (replies.Absent now) blob none = refl
plain_told call (replies.Done now) blob none = refl
plain_told call replies.Failed blob none = refl
plain_told call (replies.TooLarge len) blob none = refl
