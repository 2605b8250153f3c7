-- Which call a request means.
use Rattle.std.proofs.Common.{◌≡◌, ℕ, List, sym, subst, ◌∙◌}
use Rattle.jop_base.specs.Paths.{IsPath}
use Rattle.jop_base.specs.declared.path.Path.{Path}
use Rattle.jop_base.specs.declared.path.Path.TheVariants.{Blob}
use Rattle.jop_target.specs.Replies.{IsCallable}
use Rattle.jop_target.specs.declared.call.Call.{Call}
use Rattle.jop_target.specs.declared.call.Call.TheVariants as calls
use Rattle.dav_parts.specs.declared.method.Method.{Method}
use Rattle.dav_parts.specs.declared.method.Method.TheVariants as methods
use Rattle.dav_parts.specs.Targets.{path_target}
use Rattle.dav_wire.specs.Requests.{AsksFor, TakesBody}

pub means_same : (m n : Method) (t u body : List ℕ) (call : Call) (b c : List ℕ) → m ≡ n → u ≡ t
    → b ≡ c → AsksFor n u body call c → AsksFor m t body call b
means_same m n t u body call b c same_method same_target same_bytes h = record {
  sent_by = h.sent_by ∙ sym same_method;
  sent_to = h.sent_to ∙ same_target;
  takes = subst (λ (x : List ℕ). TakesBody call x body) (sym same_bytes) h.takes;
  callable = subst (λ (x : List ℕ). IsCallable call x) (sym same_bytes) h.callable;
  ids = h.ids;
}

module _ (target body : List ℕ) (none : (path : Path) → IsPath path → path_target path ≡ target
    → ⊥) (method : Method) where
  pub nothing_got : method ≡ methods.Get → (call : Call) (bytes : List ℕ)
      → AsksFor method target body call bytes → ⊥
  nothing_got is (calls.List dir) bytes h = cc (h.sent_by)
  nothing_got is (calls.Get path) bytes h = none path h.ids h.sent_to
  nothing_got is (calls.Put path content) bytes h = cc (h.sent_by)
  nothing_got is (calls.Delete path) bytes h = cc (h.sent_by)
  nothing_got is (calls.MakeDir dir) bytes h = cc (h.sent_by)
  nothing_got is (calls.GetBlob id) bytes h = none (Blob id) h.ids h.sent_to
  nothing_got is (calls.PutBlob id len) bytes h = cc (h.sent_by)

  pub nothing_put : method ≡ methods.Put → (call : Call) (bytes : List ℕ)
      → AsksFor method target body call bytes → ⊥
  nothing_put is (calls.List dir) bytes h = cc (h.sent_by)
  nothing_put is (calls.Get path) bytes h = cc (h.sent_by)
  nothing_put is (calls.Put path content) bytes h = none path h.ids h.sent_to
  nothing_put is (calls.Delete path) bytes h = cc (h.sent_by)
  nothing_put is (calls.MakeDir dir) bytes h = cc (h.sent_by)
  nothing_put is (calls.GetBlob id) bytes h = cc (h.sent_by)
  nothing_put is (calls.PutBlob id len) bytes h = none (Blob id) h.ids h.sent_to
