use Rattle.std.proofs.Common.{refl, subst, inr, ℕ, List, Option}
use Rattle.std.specs.Prelude.{IfNone}
use Rattle.jop_target.specs.declared.reply.Entry.{Entry}
use Rattle.dav_listing.specs.Listings.{ListsFiles}
use Rattle.webdav_calls.proofs.reply.listing_reply.Goals as goal

pub returns-in-None : goal.returns-in-None
returns-in-None c =
    let dir = c.args.dir in
    let path = c.in_ok-copy.field-0 in
    let read = c.as_slice.result.now in
    let none = subst (λ (o : Option (List Entry)).
    IfNone o ((entries : List Entry) → ¬ (ListsFiles dir path read entries))) c.in-None.is
    c.in_ok-entries.ensures.none in
    inr (
      subst (λ (body : List ℕ). (entries : List Entry) → ¬ (ListsFiles dir c.args.folder.now body entries))
          c.as_slice.ensures
          (subst (λ (folder : List ℕ). (entries : List Entry) → ¬ (ListsFiles dir folder read entries))
          c.in_ok-copy.ensures none),
      refl,
    )
