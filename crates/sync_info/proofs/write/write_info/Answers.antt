use Rattle.std.proofs.Common.{option_map, ◌≤◌, option_and_then, sym, ap, ◌∙◌, subst}
use Rattle.serde_json.specs.Data.{Data, depth}
use Rattle.serde_json.specs.Read.{max_depth}
use Rattle.serde_json.specs.View.{view}
use Rattle.serde_json.specs.Written.{has_float, compact_text}
use Rattle.sync_info.specs.declared.info.Info.{Info}
use Rattle.sync_info.specs.Read.{info_of, info_in}
use Rattle.sync_info.proofs.InfoLemmas.{whole-info_json, depth-info_json, info_of-info_json}
use Rattle.sync_info.proofs.TextLemmas.{whole_value-read}
use Rattle.sync_info.proofs.write.write_info.Goals as goal

pub returns-clause-text : goal.returns-clause-text
returns-clause-text c =
    let json = c.in_ok-value.ensures in
    let whole = ap has_float json ∙ whole-info_json c.args.info.now c.requires in
    c.from_vec.ensures ∙ c.in_ok-to_vec.ensures.text whole ∙ ap compact_text json

pub returns-clause-reads_back : goal.returns-clause-reads_back
returns-clause-reads_back c =
    let info = c.args.info.now in
    let json = c.in_ok-value.ensures in
    let whole = ap has_float json ∙ whole-info_json info c.requires in
    let shallow =
    subst (λ (d : Data). depth d ≤ max_depth) (sym json) (depth-info_json info c.requires) in
    let written = c.in_ok-to_vec.ensures in
    ap info_in c.from_vec.ensures
    ∙ ap (option_and_then info_of)
    (whole_value-read _ (view c.in_ok-value.value) written.utf8
    (written.reads_back shallow) whole) ∙ ap info_of json
    ∙ info_of-info_json info c.requires

pub returns-clause-version : goal.returns-clause-version
returns-clause-version c =
    λ has_old. ap (option_map (λ (info : Info). info.version)) (returns-clause-reads_back c)
