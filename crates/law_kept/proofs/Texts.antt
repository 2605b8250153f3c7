-- What files read to, and what rows hold.
use Rattle.std.proofs.Common.{◌≡◌, ◌∙◌, refl, ap, sym, cond, ℕ, List, Bool, true, false, codes, Option, Some, None}
use Rattle.std.specs.Prelude.{option_map}
use Rattle.std.specs.Str.{is_utf8}
use Rattle.std.proofs.lemmas.Str.{IsUtf8-from_is_utf8}
use Rattle.item_text.proofs.Again.{reads_again}
use Rattle.item_text.proofs.Parted.{reads_from_item_in, item_in-reads}
use Rattle.item_text.specs.Grammar.{first_fault, item_in, written}
use Rattle.item_text.specs.Valid.{IsItem}
use Rattle.item_text.specs.declared.bad_item.BadItem.{BadItem}
use Rattle.item_text.specs.declared.item.Item.{Item}
use Rattle.local_store.specs.Rows.{item_of}
use Rattle.local_store.specs.Sound.{IsContentOf}
use Rattle.local_store.specs.declared.content.Content.{Content}
use Rattle.local_store.specs.declared.content.Content.TheVariants.{Plain, Sealed}
use Rattle.law_licences.specs.Items.{content_without_keys, if_of, item_of_file, remote_in, says}
use Rattle.law_licences.specs.Sealing.{no_keys}
use Rattle.law_kept.proofs.Clients.{some_same}

-- whatever the bytes read to, this is it
abbrev pub ReadsTo : List ℕ → List ℕ → Option Item → Type 0
ReadsTo id bytes stood = (item : Item) → item_of_file id bytes ≡ Some item → stood ≡ Some item

text_if : (text : Bool) (more : Option BadItem) (bad : BadItem)
    → cond text more (Some bad) ≡ None → text ≡ true
text_if true more bad good = refl
text_if false more bad good = cc

-- bytes that nothing refuses are a text
a_text : (bytes : List ℕ) → first_fault bytes ≡ None → is_utf8 bytes ≡ true
unfolding first_fault
a_text bytes good = text_if (is_utf8 bytes) _ _ good

if_of_is : (id : List ℕ) (read : Option Item) (item : Item) → if_of id read ≡ Some item
    → read ≡ Some item
if_of_is id None item same = cc
if_of_is id (Some other) item same = by (says (codes "id") id other) same where
  by : (its : Bool) → cond its (Some other) None ≡ Some item → Some other ≡ Some item
  by true same = same
  by false same = cc

-- what is written of an item reads to that item alone
pub written_reads : (id : List ℕ) (item : Item) → IsItem item
    → ReadsTo id (written item) (Some item)
written_reads id item valid other reads =
    let is = if_of_is id (item_in (written item)) other reads in
    let good = (reads_from_item_in (written item) other is).1 in
    let again = reads_again item valid
    (IsUtf8-from_is_utf8 (written item) (a_text (written item) good)) in
    sym (item_in-reads (written item) item again.0 again.1) ∙ is

pub valid_content : (id : List ℕ) (content : Content) → IsContentOf id content
    → IsItem (item_of content)
valid_content id (Plain item) of = of.0.valid
valid_content id (Sealed item) of = of.0.valid

item_of-content_without_keys : (item : Item) → item_of (content_without_keys item) ≡ item
item_of-content_without_keys item = by (says (codes "encryption_applied") (codes "1") item) where
  by : (sealed : Bool) → item_of (cond sealed (Sealed item) (Plain item)) ≡ item
  by true = refl
  by false = refl

-- what was got stands for the item of the content that is made of it
pub remote_reads : (id bytes : List ℕ) (remote : List ℕ × Content) (stood : Option Item)
    → ReadsTo id bytes stood → remote_in no_keys id bytes ≡ Some remote
    → stood ≡ Some (item_of remote.1)
remote_reads id bytes remote stood reads is = by (item_of_file id bytes) refl is where
  by : (read : Option Item) → item_of_file id bytes ≡ read
      → option_map (λ item. (bytes, content_without_keys item)) read ≡ Some remote
      → stood ≡ Some (item_of remote.1)
  by None same made = cc
  by (Some item) same made =
      let content : content_without_keys item ≡ remote.1 =
      ap (λ (r : List ℕ × Content). r.1) (some_same (bytes, content_without_keys item) remote made) in
      reads item same ∙ ap Some (sym (item_of-content_without_keys item) ∙ ap item_of content)
