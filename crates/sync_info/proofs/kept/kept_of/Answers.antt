use Rattle.std.proofs.Common.{◌≡◌, ◌++◌, [], ◌∷◌, false, rules, sym, ap, ◌∙◌, string_bytes}
use Rattle.std.proofs.lemmas.Bool.{or_parts}
use Rattle.serde_json.specs.Data.{member}
use Rattle.serde_json.specs.View.{view, members_view}
use Rattle.serde_json.specs.Written.{has_float, members_have_float, compact_text}
use Rattle.sync_info.specs.Info.{is_own_member}
use Rattle.sync_info.specs.Read.{kept_of}
use Rattle.sync_info.specs.declared.member.Member.{Member}
use Rattle.sync_info.proofs.KeptLemmas.{kept_more}
use Rattle.sync_info.proofs.kept.kept_of.Goals as goal

pub loop-name-preserved-in-Continue-1 : goal.loop-name-preserved-in-Continue-1
loop-name-preserved-in-Continue-1 c =
    let l = c.loop-name in
    let of = c.args.of in
    let name = string_bytes c.in-Some.name.now in
    let value = view c.in-Some.value.now in
    let rest = members_view c.next.new.self in
    let step : members_view l.name-iterator ≡ member name value rest =
    ap members_view c.in-Some.ensures.steps in
    let foreign : is_own_member of name ≡ false = search rules in
    let m : Member = record { name = name; json = compact_text value } in
    let pushed : c.keep.new.kept ≡ l.kept ++ m ∷ [] = search rules in
    let whole = sym (ap members_have_float step) ∙ l.invariant.whole in
    let kept = l.invariant.kept ∙ ap (λ ms. l.kept ++ kept_of of ms) step in
    record {
      kept = rw pushed (kept_more of name value rest _ l.kept foreign kept);
      whole = (or_parts (has_float value) (members_have_float rest) whole).1;
    }
