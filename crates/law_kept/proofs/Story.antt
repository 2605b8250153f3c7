-- The history that is written out meets the premises of the laws.
use Rattle.std.proofs.Common.{◌≡◌, refl, subst, inl, inr, ℕ, List, [], ◌∷◌, true, false, Some, None}
use Rattle.std.specs.Prelude.{All, bytes_eq, take, drop, codes}
use Rattle.std.specs.Str.{chars, is_utf8}
use lib.Utf8.{encode}
use Rattle.std.proofs.lemmas.List.Elements.{All-append, All-cons, All-nil}
use Rattle.item_text.specs.Grammar.{above_block, block, block_fault, colon_fault, first_fault, item_in, item_of_lines, lines_fault, pair_of, type_fault, written}
use Rattle.item_text.specs.Lines.{has, has_text, joined, lines, trimmed}
use Rattle.item_text.specs.Props.{value_of}
use Rattle.item_text.specs.Valid.{is_type_value, IsField}
use Rattle.jop_base.proofs.KeyedLaws.{bytes_eq-other}
use Rattle.jop_base.specs.Keyed.{at, put}
use Rattle.jop_base.specs.declared.path.Path.TheVariants.{Item as ItemFile}
use Rattle.jop_target.specs.History.{Begins, Answered, Ends, Stopped}
use Rattle.jop_target.specs.declared.call.Call.TheVariants.{Get, Put}
use Rattle.jop_target.specs.declared.reply.Reply.TheVariants.{Got, Absent, Done}
use Rattle.local_store.specs.Sound.{IsContentOf, IsAllowed}
use Rattle.local_store.specs.Tables.{new_tables}
use Rattle.local_store.specs.Tale.{TaleStep, IsToldStep, PointsRight, changes_of, made_in, numbers_from}
use Rattle.local_store.specs.declared.change.Change.TheVariants.{Saved, Conflict}
use Rattle.local_store.specs.declared.content.Content.TheVariants.{Plain}
use Rattle.local_store.specs.declared.row.Row.{Row}
use Rattle.law_licences.specs.Checks.{last_on}
use Rattle.law_licences.specs.Deeds.{deeds_in, deeds_of}
use Rattle.law_licences.specs.Items.{remote_in}
use Rattle.law_licences.specs.Infos.{info_read}
use Rattle.law_licences.specs.Licences.{Each, ObeysData}
use Rattle.law_licences.specs.Sealing.{no_keys}
use Rattle.law_licences.proofs.Keyed.{by_some}
use Rattle.law_licences.specs.Views.{at_rest, view_from}
use Rattle.law_kept.proofs.Clients.{same_or_not}
use Rattle.law_kept.proofs.TaleTold.{told_fair}
use Rattle.law_kept.specs.Stories.{first_client, second_client}
use Rattle.law_kept.proofs.Keeping.{item_obeyed}
use Rattle.law_licences.specs.Stories.{it}
use Rattle.law_kept.specs.ToldStories.{a_text, first_text, second_text, tells, tells_change, a_told_conflict}
use Rattle.law_kept.specs.FairTables.{new_view, AllObeyData, AllObeyWithoutKeys, IsServed}
use Rattle.law_kept.specs.Holding.{IsToldWell}
use Rattle.law_kept.specs.TableStories.{a_trail, a_list}
use Rattle.law_kept.specs.Trails.{IsUnstopped, AreStops, EndsInRun, OthersObey}

pub served : IsServed it a_told_conflict
served = record { honest = told_fair.honest; text = told_fair.text; gapless = told_fair.gapless }

-- ---- each client obeys

first_row : Row
first_row = record { id = it; content = Plain first_text; base = None; pending = true }

second_row : Row
second_row = record { id = it; content = Plain second_text; base = None; pending = true }

one_obeys : ObeysData new_view (deeds_in first_client a_told_conflict.steps)
unfolding deeds_in Each at put last_on info_read first_row
one_obeys = (
  tt,
  (
    tt,
    (
      (tt, tt),
      (
        (
          tt,
          record {
            row = first_row;
            reply = Absent 0;
            pending = record { at = refl; pending = refl };
            check = refl;
            same = tt;
            text = refl;
          },
        ),
        (tt, tt),
      ),
    ),
  ),
)

read_back : remote_in no_keys it (written first_text) ≡ Some (written first_text, Plain first_text)
unfolding item_in is_utf8 chars encode first_fault lines_fault block_fault colon_fault type_fault
    block above_block item_of_lines pair_of written joined lines has_text trimmed value_of
    is_type_value
read_back = refl

no_base : None ≡ Some (written first_text) → ⊥
no_base same = cc

two_obeys : ObeysData new_view (deeds_in second_client a_told_conflict.steps)
unfolding deeds_in Each at put last_on value_of is_type_value second_row
two_obeys = (
  tt,
  (
    tt,
    (
      (tt, tt),
      (
        record {
          row = second_row;
          reply = Got 0 (written first_text);
          pending = record { at = refl; pending = refl };
          check = refl;
          other = (no_base, read_back);
          copied = refl;
        },
        (tt, tt),
      ),
    ),
  ),
)

none_obeys : (client : List ℕ) → bytes_eq first_client client ≡ false → bytes_eq second_client client ≡ false
    → ObeysData new_view (deeds_in client a_told_conflict.steps)
unfolding deeds_in Each
none_obeys client first second = rw (first, second) tt

pub keyless : AllObeyWithoutKeys a_told_conflict
keyless client = elim (same_or_not first_client client) [
  | inl same ↦
      subst (λ (c : List ℕ). ObeysData new_view (deeds_in c a_told_conflict.steps)) same one_obeys
  | inr first ↦ elim (same_or_not second_client client) [
    | inl same ↦
        subst (λ (c : List ℕ). ObeysData new_view (deeds_in c a_told_conflict.steps)) same two_obeys
    | inr second ↦
        none_obeys client (bytes_eq-other first_client client first) (bytes_eq-other second_client client second)
  ]
]

pub all_obey_told : AllObeyData a_told_conflict
all_obey_told client =
    by_some new_view (deeds_in client a_told_conflict.steps) (keyless client)

-- ---- the second client's run

pub run_obeys : ObeysData (at_rest no_keys new_tables) (deeds_of a_trail a_list)
unfolding deeds_of Each at put last_on value_of is_type_value second_row
run_obeys = (
  tt,
  (
    tt,
    (
      (tt, tt),
      (
        record {
          row = second_row;
          reply = Got 0 (written first_text);
          pending = record { at = refl; pending = refl };
          check = refl;
          other = (no_base, read_back);
          copied = refl;
        },
        (tt, tt),
      ),
    ),
  ),
)

abbrev earlier : List TaleStep
earlier = take 5 a_told_conflict.steps

abbrev run : List TaleStep
run = drop 5 a_told_conflict.steps

abbrev first_step : TaleStep
first_step = tells_change second_client 0 (Saved it second_text)

abbrev last_change : TaleStep
last_change = tells_change second_client 1 (Conflict it (Some (written first_text, Plain first_text)) true)

abbrev begins : TaleStep
begins = tells second_client Begins

abbrev gets : TaleStep
gets = tells second_client (Answered (Get (ItemFile it)) (Got 0 (written first_text)) true)

abbrev ends : TaleStep
ends = tells second_client Ends

each_of_five : (P : TaleStep → Type 0) (a b c d e : TaleStep) → P a → P b → P c → P d → P e
    → All P (a ∷ b ∷ c ∷ d ∷ e ∷ [])
each_of_five P a b c d e first second third fourth last =
    All-cons P a (b ∷ c ∷ d ∷ e ∷ []) first
    (All-cons P b (c ∷ d ∷ e ∷ []) second
    (All-cons P c (d ∷ e ∷ []) third
    (All-cons P d (e ∷ []) fourth (All-cons P e [] last (All-nil P)))))

told : All IsToldStep run
told = each_of_five IsToldStep first_step begins gets last_change ends tt tt tt tt tt

points : All (PointsRight second_client a_list) run
points =
    each_of_five (PointsRight second_client a_list) first_step begins gets last_change ends (λ e. refl)
    (λ e. tt) (λ e. tt) (λ e. refl) (λ e. tt)

goes_on : All (IsUnstopped second_client) run
goes_on =
    each_of_five (IsUnstopped second_client) first_step begins gets last_change ends (λ e k. k) (λ e k. k)
    (λ e k. k) (λ e k. k) (λ e k. k)

run_made : made_in a_trail ≡ numbers_from 0 a_list
unfolding made_in
run_made = refl

pub run_ends : EndsInRun a_told_conflict second_client new_tables a_trail a_list
unfolding deeds_in Each view_from AreStops
run_ends = record {
  earlier = earlier;
  run = run;
  later = [];
  steps = refl;
  obeyed = tt;
  left = refl;
  told = record { part = refl; told = told; points = points; numbered = run_made };
  whole = goes_on;
  over = tt;
}

pub others_obey : OthersObey it a_told_conflict second_client
others_obey other differ = item_obeyed it other a_told_conflict (all_obey_told other)

-- ---- its changes are told and allowed

field : (text : List ℕ) → has 10 text ≡ false → trimmed text ≡ text → IsField text
field text line whole = record { one_line = line; is_trimmed = whole }

text_allowed : (title : List ℕ) → has 10 title ≡ false → IsContentOf it (Plain (a_text title))
unfolding trimmed value_of is_type_value
text_allowed title line = (
  record {
    valid = record {
      title = line;
      no_title = tt;
      props = (
        record { key = field (codes "id") refl refl; no_colon = refl; value = field it refl refl },
        (
          record {
            key = field (codes "type_") refl refl;
            no_colon = refl;
            value = field (codes "1") refl refl;
          },
          tt,
        ),
      );
      typed = refl;
    };
    has_id = (refl, told_fair.text);
  },
  λ same. cc,
)

one_allowed : All IsAllowed (changes_of first_client a_told_conflict.steps)
unfolding changes_of
one_allowed =
    All-cons IsAllowed (Saved it first_text) [] (text_allowed (codes "first") refl)
    (All-nil IsAllowed)

two_allowed : All IsAllowed (changes_of second_client a_told_conflict.steps)
unfolding changes_of
two_allowed =
    All-cons IsAllowed (Saved it second_text)
    (Conflict it (Some (written first_text, Plain first_text)) true ∷ [])
    (text_allowed (codes "second") refl)
    (All-cons IsAllowed (Conflict it (Some (written first_text, Plain first_text)) true) []
    (text_allowed (codes "first") refl) (All-nil IsAllowed))

none_allowed : (client : List ℕ) → bytes_eq first_client client ≡ false → bytes_eq second_client client ≡ false
    → All IsAllowed (changes_of client a_told_conflict.steps)
unfolding changes_of
none_allowed client first second = rw (first, second) (All-nil IsAllowed)

all_allowed : (client : List ℕ) → All IsAllowed (changes_of client a_told_conflict.steps)
all_allowed client = elim (same_or_not first_client client) [
  | inl same ↦
      subst (λ (c : List ℕ). All IsAllowed (changes_of c a_told_conflict.steps)) same one_allowed
  | inr first ↦ elim (same_or_not second_client client) [
    | inl same ↦
        subst (λ (c : List ℕ). All IsAllowed (changes_of c a_told_conflict.steps)) same
        two_allowed
    | inr second ↦
        none_allowed client (bytes_eq-other first_client client first) (bytes_eq-other second_client client second)
  ]
]

earlier_told : All IsToldStep earlier
earlier_told =
    each_of_five IsToldStep (tells_change first_client 0 (Saved it first_text)) (tells first_client Begins)
    (tells first_client (Answered (Get (ItemFile it)) (Absent 0) true))
    (tells first_client (Answered (Put (ItemFile it) (written first_text)) (Done 0) true))
    (tells first_client Stopped) tt tt tt tt tt

pub told_well : IsToldWell a_told_conflict
told_well = record {
  told = All-append IsToldStep earlier run earlier_told told;
  allowed = all_allowed;
}
