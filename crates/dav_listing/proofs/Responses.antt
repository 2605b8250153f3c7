-- The propstats, the responses and the whole of a multistatus are read as what they say.
use Rattle.std.proofs.Common.{◌≡◌, ◌∙◌, refl, sym, ap, arith, ℕ, ◌≤◌, List, [], ◌∷◌, ◌++◌, length, Bool, true, false, Option, Some, None, append-nil, append_assoc}
use Rattle.std.specs.Prelude.{◌==◌, codes}
use Rattle.std.specs.List.{list_all, list_any}
use Rattle.std.proofs.lemmas.Bool.{and_parts, cond-false}
use Rattle.dav_listing.specs.Grammar.{ArePropstatsOf, AreWrittenResponses, IsDeclaration, IsPropstat, IsWritten, IsWrittenResponse, Propstat, Response, counted_with, declaration_text, document_text, propstat_text, propstats_text, properties_text, shown_response, responses_text}
use Rattle.dav_listing.specs.Lexing.{is_xml_blank}
use Rattle.dav_listing.specs.Members.{no_props, tell_twice, told_together}
use Rattle.dav_listing.specs.Multistatus.{Progress, at_first, counted_by, is_well, members_in, members_reached, one_on, progress_behind, propstat_left, reached, unmarked, wrong_if}
use Rattle.dav_listing.specs.Tags.{IsLocalName, are_blank, element, end_tag, letters_bytes, letters_text, start_tag}
use Rattle.dav_listing.specs.declared.member.Member.{Member}
use Rattle.dav_listing.specs.declared.member.Props.{Props}
use Rattle.dav_listing.specs.declared.mode.Mode.TheVariants as modes
use Rattle.dav_listing.specs.declared.place.Place.TheVariants as places
use Rattle.dav_listing.proofs.PassedReading.{text_stepped}
use Rattle.dav_listing.proofs.Properties.{properties_said}
use Rattle.dav_listing.proofs.TagReading.{at_tag, blank_is_not, end_reads, or_parts, start_reads, tag_begins, tagging, then_rest, went}
use Rattle.dav_listing.proofs.TreeReading.{Known, Leads, blank_on, blanks, inside, knowing, leads_nowhere, leads_on, letters_lead, with_known}

multistatus_is_local : IsLocalName (codes "multistatus")
multistatus_is_local = record { bytes = refl; long = omega arith; short = omega arith }

response_is_local : IsLocalName (codes "response")
response_is_local = record { bytes = refl; long = omega arith; short = omega arith }

href_is_local : IsLocalName (codes "href")
href_is_local = record { bytes = refl; long = omega arith; short = omega arith }

propstat_is_local : IsLocalName (codes "propstat")
propstat_is_local = record { bytes = refl; long = omega arith; short = omega arith }

prop_is_local : IsLocalName (codes "prop")
prop_is_local = record { bytes = refl; long = omega arith; short = omega arith }

status_is_local : IsLocalName (codes "status")
status_is_local = record { bytes = refl; long = omega arith; short = omega arith }

-- ---- a propstat

module _ (members : List Member) (href : Option (List ℕ)) (props : Props) (told : Bool) where
  abbrev in_response : Props → Bool → Known
  in_response said any = inside places.Response [] href said any no_props None

  abbrev in_propstat : Props → Option Bool → Known
  in_propstat found good = inside places.Propstat [] href props told found good

  status_said : (p : Propstat) (found : Props) → IsPropstat p found
      → Leads members (in_propstat found None)
      (element p.status_tag (codes "status") (letters_text p.status))
      (in_propstat found (Some (is_well (letters_bytes p.status))))
  status_said p found sound =
      let name = codes "status" in
      let open_at = inside places.Status [] href props told found None in
      let full = inside places.Status (letters_bytes p.status) href props told found None in
      let later = in_propstat found (Some (is_well (letters_bytes p.status))) in
      leads_on members (in_propstat found None) open_at later (start_tag p.status_tag name)
      (letters_text p.status ++ end_tag p.status_tag name)
      (start_reads (with_known members (in_propstat found None)) p.status_tag name sound.status_tag
      status_is_local refl)
      (leads_on members open_at full later (letters_text p.status) (end_tag p.status_tag name)
      (letters_lead members open_at p.status refl refl sound.status)
      (end_reads (with_known members full) p.status_tag name sound.status_tag status_is_local refl))

  prop_said : (p : Propstat) (found : Props) → IsPropstat p found
      → Leads members (in_propstat no_props None)
      (element p.prop_tag (codes "prop") (properties_text p.properties)) (in_propstat found None)
  prop_said p found sound =
      let name = codes "prop" in
      let open_at = inside places.Prop [] href props told no_props None in
      let full = inside places.Prop [] href props told found None in
      leads_on members (in_propstat no_props None) open_at (in_propstat found None)
      (start_tag p.prop_tag name) (properties_text p.properties ++ end_tag p.prop_tag name)
      (start_reads (with_known members (in_propstat no_props None)) p.prop_tag name sound.prop_tag
      prop_is_local refl)
      (leads_on members open_at full (in_propstat found None) (properties_text p.properties)
      (end_tag p.prop_tag name)
      (properties_said members href props told no_props p.properties found sound.properties)
      (end_reads (with_known members full) p.prop_tag name sound.prop_tag prop_is_local refl))

  -- what a propstat with this status makes of what was said
  counted : (good : Bool) (found : Props) → (good ≡ true → tell_twice props found ≡ false)
      → reached (with_known members (in_propstat found (Some good)))
      (unmarked (counted_by (at_tag (knowing (in_propstat found (Some good))) (codes "propstat"))
      (Some good)))
      ≡ with_known members (in_response (counted_with good props found) true)
  counted true found once =
      let k = in_propstat found (Some true) in
      ap (λ (b : Bool). reached (with_known members k) (unmarked
      (record (wrong_if b (propstat_left (at_tag (knowing k) (codes "propstat")))) {
        props = told_together props found;
      }))) (once refl)
  counted false found once = refl

  pub propstat_said : (p : Propstat) (found : Props) → IsPropstat p found
      → (is_well (letters_bytes p.status) ≡ true → tell_twice props found ≡ false)
      → Leads members (inside places.Response [] href props told no_props None) (propstat_text p)
      (inside places.Response [] href (counted_with (is_well (letters_bytes p.status)) props found)
      true no_props None)
  propstat_said p found sound once =
      let name = codes "propstat" in
      let good = is_well (letters_bytes p.status) in
      let status = element p.status_tag (codes "status") (letters_text p.status) in
      let prop = element p.prop_tag (codes "prop") (properties_text p.properties) in
      let here = in_response props told in
      let last = in_response (counted_with good props found) true in
      let empty = in_propstat no_props None in
      let said = in_propstat found None in
      let full = in_propstat found (Some good) in
      leads_on members here here last p.before
      (element p.tag name (p.lead ++ (prop ++ (p.gap ++ (status ++ p.tail)))))
      (blanks members here p.before refl sound.before)
      (leads_on members here empty last (start_tag p.tag name)
      ((p.lead ++ (prop ++ (p.gap ++ (status ++ p.tail)))) ++ end_tag p.tag name)
      (start_reads (with_known members here) p.tag name sound.tag propstat_is_local refl)
      (leads_on members empty full last (p.lead ++ (prop ++ (p.gap ++ (status ++ p.tail))))
      (end_tag p.tag name)
      (leads_on members empty empty full p.lead (prop ++ (p.gap ++ (status ++ p.tail)))
      (blanks members empty p.lead refl sound.lead)
      (leads_on members empty said full prop (p.gap ++ (status ++ p.tail)) (prop_said p found sound)
      (leads_on members said said full p.gap (status ++ p.tail)
      (blanks members said p.gap refl sound.gap)
      (leads_on members said full full status p.tail (status_said p found sound)
      (blanks members full p.tail refl sound.tail)))))
      (end_reads (with_known members full) p.tag name sound.tag propstat_is_local refl
      ∙ counted good found once)))

later_said : (members : List Member) (href : Option (List ℕ)) (props : Props) (ps : List Propstat)
    (all : Props) → ArePropstatsOf props ps all
    → Leads members (inside places.Response [] href props true no_props None) (propstats_text ps)
    (inside places.Response [] href all true no_props None)
unfolding propstats_text
later_said members href props [] all is =
    leads_nowhere members (inside places.Response [] href props true no_props None)
    ∙ ap (λ (x : Props). with_known members (inside places.Response [] href x true no_props None))
    (sym is)
later_said members href props (p ∷ ps) all (found, sound, once, rest) =
    let next = counted_with (is_well (letters_bytes p.status)) props found in
    leads_on members (inside places.Response [] href props true no_props None)
    (inside places.Response [] href next true no_props None)
    (inside places.Response [] href all true no_props None) (propstat_text p) (propstats_text ps)
    (propstat_said members href props true p found sound once)
    (later_said members href next ps all rest)

all_said : (members : List Member) (href : Option (List ℕ)) (ps : List Propstat) (all : Props)
    → 1 ≤ length ps → ArePropstatsOf no_props ps all
    → Leads members (inside places.Response [] href no_props false no_props None) (propstats_text ps)
    (inside places.Response [] href all true no_props None)
unfolding propstats_text
all_said members href [] all some is = absurd (omega arith)
all_said members href (p ∷ ps) all some (found, sound, once, rest) =
    let next = counted_with (is_well (letters_bytes p.status)) no_props found in
    leads_on members (inside places.Response [] href no_props false no_props None)
    (inside places.Response [] href next true no_props None)
    (inside places.Response [] href all true no_props None) (propstat_text p) (propstats_text ps)
    (propstat_said members href no_props false p found sound once)
    (later_said members href next ps all rest)

-- ---- a response

-- between two responses
abbrev multi : Known
multi = inside places.Multistatus [] None no_props false no_props None

-- the same, where these resources were shown and the last byte may have ended a response
abbrev between : List Member → Option Member → Progress
between members ended = record {
  reader = record (knowing multi) { ended = ended };
  members = members;
}

-- these bytes lead from one such place to another
record Shows (before : List Member) (ended : Option Member) (text : List ℕ) (after : List Member)
    : Type 0 where
  last : Option Member
  read : progress_behind (between before ended) text ≡ between after last

shows_on : (a b c : List Member) (ended : Option Member) (xs ys : List ℕ)
    → (first : Shows a ended xs b) → Shows b first.last ys c → Shows a ended (xs ++ ys) c
shows_on a b c ended xs ys first later = record {
  last = later.last;
  read = then_rest (between a ended) (between b first.last) xs ys first.read ∙ later.read;
}

blanks_between : (members : List Member) (ended : Option Member) (text : List ℕ)
    → are_blank text ≡ true → Shows members ended text members
unfolding progress_behind
blanks_between members ended [] all = record { last = ended; read = refl }
blanks_between members ended (b ∷ text) all =
    let parts = and_parts (is_xml_blank b) (list_all is_xml_blank text) all in
    let rest = blanks_between members None text parts.1 in record {
      last = rest.last;
      read = ap (λ (q : Progress). progress_behind q text)
          (text_stepped (between members ended) (between members ended).reader b refl
          (blank_is_not 60 b refl parts.0) (blank_is_not 38 b refl parts.0)
          ∙ ap (reached (between members ended)) (blank_on (knowing multi) b refl refl parts.0))
          ∙ rest.read;
    }

href_said : (members : List Member) (r : Response) (m : Member) → IsWrittenResponse r m
    → Leads members (inside places.Response [] None no_props false no_props None)
    (element r.href_tag (codes "href") (letters_text r.href))
    (inside places.Response [] (Some (letters_bytes r.href)) no_props false no_props None)
href_said members r m sound =
    let name = codes "href" in
    let here = inside places.Response [] None no_props false no_props None in
    let open_at = inside places.Href [] None no_props false no_props None in
    let full = inside places.Href (letters_bytes r.href) None no_props false no_props None in
    let later = inside places.Response [] (Some (letters_bytes r.href)) no_props false no_props None in
    leads_on members here open_at later (start_tag r.href_tag name)
    (letters_text r.href ++ end_tag r.href_tag name)
    (start_reads (with_known members here) r.href_tag name sound.href_tag href_is_local refl)
    (leads_on members open_at full later (letters_text r.href) (end_tag r.href_tag name)
    (letters_lead members open_at r.href refl refl sound.href)
    (end_reads (with_known members full) r.href_tag name sound.href_tag href_is_local refl))

response_shown : (members : List Member) (ended : Option Member) (r : Response) (m : Member)
    → IsWrittenResponse r m → Shows members ended (shown_response r) (members ++ m ∷ [])
response_shown members ended r m sound =
    let name = codes "response" in
    let href = element r.href_tag (codes "href") (letters_text r.href) in
    let inner = r.lead ++ (href ++ (propstats_text r.propstats ++ r.tail)) in
    let here = inside places.Response [] None no_props false no_props None in
    let named = inside places.Response [] (Some (letters_bytes r.href)) no_props false no_props None in
    let full = inside places.Response [] (Some (letters_bytes r.href)) m.props true no_props None in
    let shown : Member = record { href = letters_bytes r.href; props = m.props } in
    let same : shown ≡ m = (λ i. record { href = sym sound.named i; props = m.props }) in
    let lead = blanks_between members ended r.before sound.before in
    shows_on members members (members ++ m ∷ []) ended r.before (element r.tag name inner) lead
    (record {
      last = Some shown;
      read = then_rest (between members lead.last) (with_known members here) (start_tag r.tag name)
          (inner ++ end_tag r.tag name)
          (start_reads (between members lead.last) r.tag name sound.tag response_is_local refl)
          ∙ then_rest (with_known members here) (with_known members full) inner (end_tag r.tag name)
          (leads_on members here here full r.lead (href ++ (propstats_text r.propstats ++ r.tail))
          (blanks members here r.lead refl sound.lead)
          (leads_on members here named full href (propstats_text r.propstats ++ r.tail)
          (href_said members r m sound)
          (leads_on members named full full (propstats_text r.propstats) r.tail
          (all_said members (Some (letters_bytes r.href)) r.propstats m.props sound.some
          sound.propstats) (blanks members full r.tail refl sound.tail))))
          ∙ end_reads (with_known members full) r.tag name sound.tag response_is_local refl
          ∙ ap (λ (x : Member). between (members ++ x ∷ []) (Some shown)) same;
    })

responses_shown : (members : List Member) (ended : Option Member) (rs : List Response)
    (ms : List Member) → AreWrittenResponses rs ms
    → Shows members ended (responses_text rs) (members ++ ms)
unfolding progress_behind responses_text
responses_shown members ended [] ms is = record {
  last = ended;
  read = ap (λ (xs : List Member). between xs ended)
      (sym (append-nil members) ∙ ap (λ (xs : List Member). members ++ xs) (sym is));
}
responses_shown members ended (r ∷ rs) ms (m, rest, is, sound, later) =
    let first = response_shown members ended r m sound in
    let others = responses_shown (members ++ m ∷ []) first.last rs rest later in
    let all = shows_on members (members ++ m ∷ []) ((members ++ m ∷ []) ++ rest) ended (shown_response r)
    (responses_text rs) first others in record {
      last = all.last;
      read = all.read ∙ ap (λ (xs : List Member). between xs all.last)
          (append_assoc members (m ∷ []) rest ∙ ap (λ (xs : List Member). members ++ xs) (sym is));
    }

-- ---- the whole

abbrev outside : Known
outside = inside places.Outside [] None no_props false no_props None

prolog_on : (p : Progress) (text : List ℕ) → list_any (λ b. b == 63) text ≡ false
    → progress_behind (tagging p modes.Prolog []) text ≡ tagging p modes.Prolog []
unfolding progress_behind
prolog_on p [] none = refl
prolog_on p (b ∷ text) none =
    let parts = or_parts (b == 63) (list_any (λ b. b == 63) text) none in
    ap (λ (q : Progress). progress_behind q text)
    (went p modes.Prolog modes.Prolog [] b (cond-false (b == 63) _ _ parts.0))
    ∙ prolog_on p text parts.1

declaration_read : (text : Option (List ℕ)) → IsDeclaration text
    → progress_behind at_first (declaration_text text) ≡ with_known [] outside
unfolding progress_behind one_on
declaration_read None sound = refl
declaration_read (Some text) none =
    tag_begins at_first (63 ∷ (text ++ 63 ∷ 62 ∷ [])) refl
    ∙ ap (λ (q : Progress). progress_behind q (text ++ 63 ∷ 62 ∷ []))
    (went at_first modes.Tag modes.Prolog [] 63 refl)
    ∙ then_rest (tagging at_first modes.Prolog []) (tagging at_first modes.Prolog []) text
    (63 ∷ 62 ∷ []) (prolog_on at_first text none)

pub written_is_read : (members : List Member) (text : List ℕ) → IsWritten members text
    → members_in text ≡ Some members
unfolding progress_behind
written_is_read members text w =
    let d = w.document in
    let name = codes "multistatus" in
    let inner = responses_text d.responses ++ d.tail in
    let ended = inside places.Ended [] None no_props false no_props None in
    let responses = responses_shown [] None d.responses members w.responses in
    let tail = blanks_between members responses.last d.tail w.tail in
    let all = shows_on [] members members None (responses_text d.responses) d.tail responses tail in
    let read : progress_behind at_first (document_text d) ≡ with_known members ended =
    then_rest at_first (with_known [] outside) (declaration_text d.declaration)
    (d.lead ++ (element d.tag name inner ++ d.end)) (declaration_read d.declaration w.declaration)
    ∙ then_rest (with_known [] outside) (with_known [] outside) d.lead
    (element d.tag name inner ++ d.end) (blanks [] outside d.lead refl w.lead)
    ∙ then_rest (with_known [] outside) (with_known members ended) (element d.tag name inner) d.end
    (then_rest (with_known [] outside) (between [] None) (start_tag d.tag name)
    (inner ++ end_tag d.tag name)
    (start_reads (with_known [] outside) d.tag name w.tag multistatus_is_local refl)
    ∙ then_rest (between [] None) (between members all.last) inner (end_tag d.tag name) all.read
    ∙ end_reads (between members all.last) d.tag name w.tag multistatus_is_local refl)
    ∙ blanks members ended d.end refl w.end in
    ap members_in w.text_is ∙ ap members_reached read
