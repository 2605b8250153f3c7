-- What a listing says of one resource.
use Rattle.std.specs.Prelude.{Bool, ◌||◌, ◌&&◌, Option, Some, None, is_some}
use Rattle.dav_listing.specs.declared.member.Props.{Props}

-- nothing is said
abbrev pub no_props : Props
no_props = record { stamp = None; folder = None }

abbrev pub first_told : {A : Type 0} → Option A → Option A → Option A
first_told None other = other
first_told (Some x) other = Some x

-- whether one thing is said by both
abbrev pub tell_twice : Props → Props → Bool
tell_twice p q =
    (is_some p.stamp && is_some q.stamp) || (is_some p.folder && is_some q.folder)

-- what the two say together
abbrev pub told_together : Props → Props → Props
told_together p q =
    record { stamp = first_told p.stamp q.stamp; folder = first_told p.folder q.folder }
