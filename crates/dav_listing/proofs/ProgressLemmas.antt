-- How far a body is read: piece by piece, and the resources that were shown stay.
use Rattle.std.proofs.Common.{◌≡◌, ◌∙◌, refl, sym, ap, ℕ, List, [], ◌∷◌, ◌++◌, Bool, true, false, Option, Some, None, append-nil, append_assoc}
use Rattle.std.specs.Prelude.{if◌then◌else◌}
use Rattle.dav_listing.specs.Multistatus.{Progress, is_whole, members_in, members_reached, one_on, progress_behind, progress_of, reached, shown_more}
use Rattle.dav_listing.specs.declared.member.Member.{Member}

pub progress_behind-append : (p : Progress) (xs ys : List ℕ)
    → progress_behind p (xs ++ ys) ≡ progress_behind (progress_behind p xs) ys
unfolding progress_behind
progress_behind-append p [] ys = refl
progress_behind-append p (x ∷ xs) ys = progress_behind-append (reached p (one_on p.reader x)) xs ys

pub one_byte_more : (body : List ℕ) (b : ℕ)
    → progress_of (body ++ b ∷ []) ≡ reached (progress_of body) (one_on (progress_of body).reader b)
unfolding progress_behind
one_byte_more body b = progress_behind-append _ body (b ∷ [])

stay : (members : List Member) (ended : Option Member)
    → (more : List Member) × (shown_more members ended ≡ members ++ more)
stay members None = ([], sym (append-nil members))
stay members (Some m) = (m ∷ [], refl)

members_stay : (p : Progress) (bytes : List ℕ)
    → (more : List Member) × ((progress_behind p bytes).members ≡ p.members ++ more)
unfolding progress_behind
members_stay p [] = ([], sym (append-nil p.members))
members_stay p (b ∷ bytes) =
    let first = stay p.members (one_on p.reader b).ended in
    let rest = members_stay (reached p (one_on p.reader b)) bytes in (
      first.0 ++ rest.0,
      rest.1 ∙ ap (λ (ms : List Member). ms ++ rest.0) first.1
          ∙ append_assoc p.members first.0 rest.0,
    )

-- what a whole body shows
pub whole_shows : (p : Progress) → is_whole p.reader.mode p.reader.place ≡ true
    → members_reached p ≡ Some p.members
whole_shows p whole = at (is_whole p.reader.mode p.reader.place) whole
  where
    at : (b : Bool) → b ≡ true → (if b then Some p.members else None) ≡ Some p.members
    at true h = refl
    at false h = cc

pub shown_is_whole : (p : Progress) (ms : List Member) → members_reached p ≡ Some ms
    → (is_whole p.reader.mode p.reader.place ≡ true) × (p.members ≡ ms)
shown_is_whole p ms shown = at (is_whole p.reader.mode p.reader.place) shown
  where
    members_or : Option (List Member) → List Member
    members_or (Some x) = x
    members_or None = []

    at : (b : Bool) → (if b then Some p.members else None) ≡ Some ms
        → (b ≡ true) × (p.members ≡ ms)
    at true h = (refl, ap members_or h)
    at false h = cc

-- a body that goes on shows at least what was shown
pub more_are_shown : (body more : List ℕ) (ms : List Member) → members_in (body ++ more) ≡ Some ms
    → (rest : List Member) × (ms ≡ (progress_of body).members ++ rest)
more_are_shown body more ms shown =
    let longer = members_stay (progress_of body) more in (
      longer.0,
      sym (shown_is_whole (progress_of (body ++ more)) ms shown).1
          ∙ ap (λ (p : Progress). p.members) (progress_behind-append _ body more) ∙ longer.1,
    )
