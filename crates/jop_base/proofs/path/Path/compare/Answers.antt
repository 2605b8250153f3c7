use Rattle.std.proofs.Common.{◌≡◌, ◌∙◌, refl, sym}
use Rattle.std.specs.Cmp.Lexicographic.{slice_cmp}
use Rattle.std.specs.Option.{option_cmp}
use Rattle.std.specs.Ordering.{nat_cmp, ordering_then}
use Rattle.std.specs.declared.cmp.Ordering.{Ordering}
use Rattle.std.specs.declared.cmp.Ordering.TheVariants.{Less, Equal, Greater}
use Rattle.jop_base.specs.Order.{rank_of}
use Rattle.jop_base.specs.Paths.{id_of}
use Rattle.jop_base.proofs.TextOrder.{path_cmp-by_rank}
use Rattle.jop_base.proofs.path.Path.compare.Goals as goal

equal : (a b : Ordering) → a ≡ Equal → ordering_then a b ≡ b
equal Less b is = cc
equal Equal b is = refl
equal Greater b is = cc

unequal : (a b : Ordering) → ¬ (a ≡ Equal) → ordering_then a b ≡ a
unequal Less b is = refl
unequal Equal b is = absurd (is refl)
unequal Greater b is = refl

pub returns-in-Equal : goal.returns-in-Equal
returns-in-Equal c =
    let p = c.args.self.now in
    let q = c.args.other.now in
    let ranks : nat_cmp (rank_of p) (rank_of q) ≡ Equal =
    cc (c.rank.ensures, c.rank-2.ensures, c.in-Equal.ensures) in
    let ids : c.cmp-in-Equal.result ≡ option_cmp (slice_cmp nat_cmp) (id_of p) (id_of q) =
    cc (c.cmp-in-Equal.ensures, c.id-own.ensures.id, c.id-others.ensures.id) in
    let texts = path_cmp-by_rank p q c.id-own.ensures.path c.id-others.ensures.path in
    ids ∙ (sym (equal _ _ ranks) ∙ texts)

pub returns-in_default : goal.returns-in_default
returns-in_default c =
    let p = c.args.self.now in
    let q = c.args.other.now in
    let ranks : c.cmp.result ≡ nat_cmp (rank_of p) (rank_of q) =
    cc (c.rank.ensures, c.rank-2.ensures, c.cmp.ensures) in
    let texts = path_cmp-by_rank p q c.id-own.ensures.path c.id-others.ensures.path in
    ranks ∙ (sym (unequal _ _ (λ same. c.in_default.not-Equal (ranks ∙ same))) ∙ texts)
