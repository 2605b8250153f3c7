-- The names of files in a listing have no `<`, and each target is one file's or one folder's.
use Rattle.std.proofs.Common.{◌≡◌, ℕ, List, [], ◌∷◌, ◌++◌, drop, Bool, true, false, ◌==◌, refl, ap, ◌∙◌, arith}
use Rattle.std.specs.List.{list_all}
use Rattle.std.specs.Prelude.{◌||◌}
use Rattle.std.proofs.lemmas.Bool.{and_parts, or_from}
use Rattle.std.proofs.lemmas.Bool.Decides.{nat_tests}
use Rattle.jop_base.specs.Paths.{IsPath, file_name}
use Rattle.jop_base.specs.declared.dir.Dir.{Dir}
use Rattle.jop_base.specs.declared.path.Path.{Path}
use Rattle.jop_base.proofs.PathTexts.{is_plain, name_plain, text_unique, prefix_unique}
use Rattle.dav_parts.specs.Multistatus.{has_open}
use Rattle.dav_parts.specs.Targets.{path_target, dir_target}

-- ---- no name has a `<`

pub open_append : (s t : List ℕ) → has_open (s ++ t) ≡ (has_open s || has_open t)
open_append [] t = refl
open_append (b ∷ s) t = or_assoc (b == 60) (has_open s) (has_open t) (has_open (s ++ t))
    (open_append s t)
  where
    or_assoc : (x y z w : Bool) → w ≡ (y || z) → (x || w) ≡ ((x || y) || z)
    or_assoc true y z w e = refl
    or_assoc false y z w e = e

plain_opens_not : (b : ℕ) → is_plain b ≡ true → (b == 60) ≡ false
plain_opens_not b h = grind (arith, nat_tests)

none_opens : (text : List ℕ) → list_all is_plain text ≡ true → has_open text ≡ false
none_opens [] h = refl
none_opens (b ∷ text) h =
    let parts = and_parts (is_plain b) (list_all is_plain text) h in
    or_from (b == 60) (has_open text) (plain_opens_not b parts.0) (none_opens text parts.1)

pub name_opens_not : (path : Path) → IsPath path → has_open (file_name path) ≡ false
name_opens_not path h = none_opens (file_name path) (name_plain path h)

-- ---- each target is one file's, or one folder's

pub path_target_unique : (p q : Path) → IsPath p → IsPath q → path_target p ≡ path_target q → p ≡ q
path_target_unique p q h k e = text_unique p q h k (ap (λ (t : List ℕ). drop 1 t) e)

pub dir_target_unique : (a b : Dir) → dir_target a ≡ dir_target b → a ≡ b
dir_target_unique a b e = prefix_unique a b (ap (λ (t : List ℕ). drop 1 t) e)
