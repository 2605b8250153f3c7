use Rattle.std.proofs.Common.{◌∙◌, sym}
use Rattle.law_licences.specs.Items.{is_resource}
use Rattle.local_store.specs.Rows.{item_of}
use Rattle.session.proofs.Fetched.{gets_bytes, gets_none}
use Rattle.session.proofs.fetching.fetch_bytes_of.Goals as goal

pub returns-then-not-is_resource : goal.returns-then-not-is_resource
returns-then-not-is_resource g c = record {
  ends = λ sort has.
      gets_none c.args.id.now (is_resource (item_of c.args.content.now)) sort _
      (sym c.is_resource.ensures ∙ c.if-not-is_resource.true) c.requires.ready;
}

pub returns : goal.returns
returns g c = record {
  ends = λ sort has.
      gets_bytes c.args.id.now (is_resource (item_of c.args.content.now)) sort _ _ c.fetch.result
      (sym c.is_resource.ensures ∙ c.if-not-is_resource.false) (c.fetch.ensures.ends sort has);
}
