use Rattle.std.proofs.Common.{rules, Some, codes}
use Rattle.item_text.specs.declared.item.Item.{Item}
use Rattle.item_kinds.specs.Slots.{Given, given, folder_slots}
use Rattle.item_kinds.proofs.NewItems.{given_fields, id_field, is_new, tag_table, time_field}
use Rattle.item_kinds.proofs.new_items.tag_item.Goals as goal

pub returns : goal.returns
returns c =
    let g : Given = given c.as_str.result.now c.as_str-2.result.now in
    let fields = given_fields _ _ (id_field _ _ c.as_str.ensures.same c.as_str.ensures.digits)
    (time_field _ _ c.args.now c.as_str-2.ensures c.in_ok-stamp.ensures.written c.requires.time)
    in
    let item : Item =
    record { title = Some c.args.title; body = c.new.result; props = c.in_ok-props.props } in
    let new = is_new
    (folder_slots (codes "5"))
    g 5 item _ tag_table c.in_ok-props.ensures fields c.as_str.ensures.same
    c.requires.title.no_feed tt in
    record {
      made = search rules;
      valid = new.valid;
      kind = new.kind;
      id = (new.id, c.as_str.ensures.digits);
    }
