use Rattle.std.proofs.Common.{rules, Some, ◌∙◌}
use Rattle.item_text.specs.declared.item.Item.{Item}
use Rattle.item_kinds.specs.Slots.{Given, given, resource_slots}
use Rattle.item_text.proofs.Blanks.{trimmed-trimmed}
use Rattle.item_kinds.proofs.Escaping.{escaped_field}
use Rattle.item_kinds.proofs.NewItems.{AreFields, given_fields, id_field, is_new, number_field, resource_table, same_field, time_field, with_file}
use Rattle.item_kinds.proofs.resource.resource_item.Goals as goal

pub returns : goal.returns
returns c =
    let g : Given =
    record (given c.as_str.result.now c.as_str-5.result.now) {
      mime = c.as_str-2.result.now;
      file = c.as_str-3.result.now;
      size = c.as_str-4.result.now;
    } in
    let bare = given_fields _ _ (id_field _ _ c.as_str.ensures.same c.as_str.ensures.digits)
    (time_field _ _ c.args.now c.as_str-5.ensures c.in_ok-stamp.ensures.written c.requires.time)
    in
    let fields : AreFields g = with_file _ _ _ _ bare
    (same_field _ _ (c.as_str-2.ensures ∙ c.in_ok-mime.ensures)
    (escaped_field c.args.mime c.requires.trimmed))
    (same_field _ _ (c.as_str-3.ensures ∙ c.in_ok-file.ensures)
    (escaped_field _ (trimmed-trimmed c.args.name)))
    (number_field _ _ c.args.len c.as_str-4.ensures c.in_ok-size.ensures c.ranges.len.fits) in
    let item : Item =
    record { title = Some c.args.name; body = c.new.result; props = c.in_ok-props.props } in
    let new = is_new resource_slots g 4 item _ resource_table c.in_ok-props.ensures fields
    c.as_str.ensures.same c.requires.name.no_feed tt in
    record {
      made = search rules;
      valid = new.valid;
      kind = new.kind;
      id = (new.id, c.as_str.ensures.digits);
    }
