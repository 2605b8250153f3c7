-- The sessions that are written out obey.
use Rattle.std.specs.Prelude.{ℕ, ◌≡◌, List, [], ◌∷◌, true, false, Contains, Some, None, refl}
use Rattle.std.specs.List.Sorted.{IsStrictlySortedBy}
use Rattle.std.specs.Str.{chars, is_utf8}
use lib.Utf8.{encode}
use Rattle.std.proofs.Common.{ap, subst, inl, inr, lit<}
use Rattle.delta.proofs.Lists.{in-cases, in-none}
use Rattle.delta.specs.Marks.{is_new, latest, marks_of}
use Rattle.delta.specs.Order.{Lists, id_cmp}
use Rattle.delta.specs.Page.{IsGoneOf, IsNext, IsPageOf, IsTaken}
use Rattle.delta.specs.declared.mark.Mark.{Mark}
use Rattle.delta.specs.declared.page.Page.{Page}
use Rattle.item_text.specs.Grammar.{above_block, block, block_fault, colon_fault, first_fault, item_in, item_of_lines, lines_fault, pair_of, type_fault, written}
use Rattle.item_text.specs.Lines.{has_text, joined, lines, trimmed}
use Rattle.item_text.specs.Props.{value_of, is_text}
use Rattle.item_text.specs.Valid.{is_type_value}
use Rattle.jop_base.specs.Keyed.{at, put, cut}
use Rattle.jop_base.specs.declared.context.Context.{Context}
use Rattle.jop_base.specs.declared.path.Path.TheVariants.{Item as ItemFile}
use Rattle.jop_target.specs.declared.reply.Listing.{Listing}
use Rattle.jop_target.specs.declared.reply.Reply.TheVariants.{Got, Absent, Done}
use Rattle.local_store.specs.declared.content.Content.TheVariants.{Plain}
use Rattle.local_store.specs.declared.deletion.Deletion.{Deletion}
use Rattle.law_licences.specs.Breaches.{editor, my_keys, opener}
use Rattle.law_licences.specs.Checks.{last_on}
use Rattle.law_licences.specs.Deletions.{WasDeleted}
use Rattle.law_licences.specs.Items.{remote_in}
use Rattle.law_licences.specs.Infos.{info_read}
use Rattle.law_licences.specs.Licences.{Each, ObeysData}
use Rattle.law_licences.specs.Pages.{HasPage}
use Rattle.law_licences.specs.Stories.{it, place, mine, theirs, a_folder, a_sealed, edited, keys_for, locked, synced, having, sealing_with, an_upload, a_deletion, a_conflict, a_loss, a_page, a_sealed_upload, a_sealed_conflict, an_opening}
use Rattle.law_licences.specs.Sealing.{no_keys}
use Rattle.law_licences.specs.Views.{Shown, View}

pub upload : ObeysData (having [] []) an_upload
unfolding Each at put last_on info_read
upload = (
  tt,
  (
    tt,
    (
      (tt, tt),
      (
        (
          tt,
          record {
            row = edited it mine None;
            reply = Absent 1;
            pending = record { at = refl; pending = refl };
            check = refl;
            same = tt;
            text = refl;
          },
        ),
        (record { now = 2; put = refl }, (tt, tt)),
      ),
    ),
  ),
)

removed : Deletion
removed = record { id = it; resource = true }

pub deletion : ObeysData (having [] (record { id = it; resource = true } ∷ [])) a_deletion
unfolding Each at WasDeleted removed
deletion = (
  tt,
  (
    (tt, record { deletion = removed; at = refl }),
    (
      (tt, record { deletion = removed; at = refl; resource = refl }),
      (
        record {
          deletion = removed;
          at = refl;
          file = inr (inl (record { reply = Done 1; done = tt; is = refl }));
          blob = λ e. inl (record { reply = Absent 2; done = tt; is = refl });
        },
        (tt, tt),
      ),
    ),
  ),
)

-- ---- another's text

read_back : remote_in no_keys it (written theirs) ≡ Some (written theirs, Plain theirs)
unfolding item_in is_utf8 chars encode first_fault lines_fault block_fault colon_fault type_fault
    block above_block item_of_lines pair_of written joined lines has_text trimmed value_of
    is_type_value
read_back = refl

not-written : Some [] ≡ Some (written theirs) → ⊥
unfolding written joined
not-written e = let f : true ≡ false = ap (is_text []) e in cc

pub conflict : ObeysData (editor (Some [])) a_conflict
unfolding Each at last_on value_of is_type_value
conflict = (
  tt,
  (
    (tt, tt),
    (
      record {
        row = edited it mine (Some []);
        reply = Got 1 (written theirs);
        pending = record { at = refl; pending = refl };
        check = refl;
        other = (not-written, read_back);
        copied = refl;
      },
      (tt, tt),
    ),
  ),
)

-- ---- a folder

pub loss : ObeysData (having (synced it mine [] ∷ edited place a_folder (Some []) ∷ []) []) a_loss
unfolding Each at put cut last_on value_of is_type_value
loss = (
  tt,
  (
    (tt, tt),
    (
      record {
        row = synced it mine [];
        folder = place;
        place = edited place a_folder (Some []);
        at = refl;
        inside = refl;
        stands = refl;
        is = refl;
        leaving = inr (
          false,
          record {
            row = edited place a_folder (Some []);
            reply = Absent 1;
            pending = record { at = refl; pending = refl };
            check = refl;
            other = tt;
            copied = refl;
          },
        );
      },
      (
        record {
          row = edited place a_folder (Some []);
          reply = Absent 1;
          pending = record { at = refl; pending = refl };
          check = refl;
          other = tt;
          copied = refl;
        },
        (tt, tt),
      ),
    ),
  ),
)

-- ---- a page

listing : Listing
listing = record { now = 5; entries = record { path = ItemFile it; stamp = 3 } ∷ [] }

at_first : Context
at_first = record { moment = 0; seen = [] }

mark : Mark
mark = record { stamp = 3; id = it }

page : Page
page = record { taken = it ∷ []; gone = []; next = record { moment = 3; seen = it ∷ [] } }

is_it : (m : Mark) → Contains (mark ∷ []) m → mark ≡ m
is_it m h = elim (in-cases mark [] m h) [
  | inl e ↦ e
  | inr k ↦ absurd (in-none m k)
]

taken : IsTaken at_first (marks_of listing.entries) (it ∷ [])
unfolding marks_of listing at_first mark IsStrictlySortedBy
taken = record {
  new = mark ∷ [];
  lists = record {
    rising = (tt, tt);
    whole = λ m h. h.0;
    only = λ m h. (h, subst (λ (x : Mark). is_new at_first x ≡ true) (is_it m h) refl);
  };
  ids = refl;
}

gone : Lists id_cmp (IsGoneOf [] (marks_of listing.entries) None) []
unfolding IsStrictlySortedBy
gone = record {
  rising = tt;
  whole = λ id h. absurd (in-none id h.0);
  only = λ id h. absurd (in-none id h);
}

id_is : (id : List ℕ) → Contains (it ∷ []) id → it ≡ id
id_is id h = elim (in-cases it [] id h) [
  | inl e ↦ e
  | inr k ↦ absurd (in-none id k)
]

next : IsNext 5 at_first (marks_of listing.entries) (record { moment = 3; seen = it ∷ [] })
unfolding marks_of listing at_first mark latest IsStrictlySortedBy
next = record {
  moment = refl;
  seen = record {
    rising = (tt, tt);
    whole = λ id h.
        let e : it ≡ id = ap (λ (m : Mark). m.id) (is_it (record { stamp = 3; id = id }) h.1) in
        subst (λ (x : List ℕ). Contains (it ∷ []) x) e (0, lit< tt, refl);
    only = λ id h. (
      lit< tt,
      subst (λ (x : List ℕ). Contains (mark ∷ []) (record { stamp = 3; id = x })) (id_is id h)
          (0, lit< tt, refl),
    );
  };
}

page_is : IsPageOf listing None at_first [] page
unfolding page listing at_first
page_is = record { taken = taken; gone = gone; next = next }

absent : None ≡ Some (written theirs) → ⊥
absent e = cc

was_shown : Shown
was_shown = record { listing = listing; tombs = None; context = at_first; synced = [] }

has_page : (v : View) → v.shown ≡ Some was_shown → HasPage v page
unfolding was_shown
has_page v last = record { shown = was_shown; last = last; is = page_is }

pub reading : ObeysData (having [] []) a_page
unfolding Each at put last_on listing at_first was_shown page
reading = (
  tt,
  (
    (tt, tt),
    (
      (tt, tt),
      (
        record {
          page = page;
          reply = Got 6 (written theirs);
          has = has_page _ refl;
          taken = (0, lit< tt, refl);
          unchanged = refl;
          check = refl;
          other = (absent, read_back);
        },
        (record { page = page; has = has_page _ refl; next = refl }, (tt, tt)),
      ),
    ),
  ),
)

-- ---- with keys

pub sealed-upload : ObeysData (sealing_with my_keys (edited it mine None ∷ [])) a_sealed_upload
unfolding Each at put last_on info_read
sealed-upload = (
  tt,
  (
    (tt, tt),
    (
      (
        tt,
        record {
          row = edited it mine None;
          reply = Absent 1;
          pending = record { at = refl; pending = refl };
          check = refl;
          same = tt;
          text = refl;
        },
      ),
      (record { now = 2; put = refl }, (tt, tt)),
    ),
  ),
)

read_opened : remote_in (keys_for theirs []) it (written a_sealed)
    ≡ Some (written a_sealed, Plain theirs)
unfolding item_in is_utf8 chars encode first_fault lines_fault block_fault colon_fault type_fault
    block above_block item_of_lines pair_of written joined lines has_text trimmed value_of
    is_type_value
read_opened = refl

not-sealed : Some [] ≡ Some (written a_sealed) → ⊥
unfolding written joined
not-sealed e = let f : true ≡ false = ap (is_text []) e in cc

pub sealed-conflict : ObeysData
    (sealing_with (keys_for theirs []) (edited it mine (Some []) ∷ [])) a_sealed_conflict
unfolding Each at last_on value_of is_type_value
sealed-conflict = (
  tt,
  (
    (tt, tt),
    (
      record {
        row = edited it mine (Some []);
        reply = Got 1 (written a_sealed);
        pending = record { at = refl; pending = refl };
        check = refl;
        other = (not-sealed, read_opened);
        copied = refl;
      },
      (tt, tt),
    ),
  ),
)

pub opened : ObeysData opener an_opening
unfolding Each at put
opened = (
  tt,
  (
    record { row = locked; outer = a_sealed; at = refl; is_sealed = refl; opens = refl },
    (tt, tt),
  ),
)
