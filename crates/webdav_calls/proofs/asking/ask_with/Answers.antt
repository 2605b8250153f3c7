use Rattle.std.proofs.Common.{◌≡◌, false, List, sym, subst, length}
use Rattle.http1.specs.Fields.{Header}
use Rattle.http1.specs.declared.conn.BodySize.TheVariants.{Known}
use Rattle.http_exchange.specs.Texts.{asks_to_upgrade}
use Rattle.webdav_calls.specs.Asking.{is_listing_call}
use Rattle.webdav_calls.proofs.Plain.{plain}
use Rattle.webdav_calls.proofs.asking.ask_with.Goals as goal

pub exchange-requires-clause-plain : goal.exchange-requires-clause-plain
exchange-requires-clause-plain g c =
    subst (λ (fields : List Header).
    asks_to_upgrade (Known (length c.call_content-content.result.now)) fields ≡ false)
    (sym c.requires.fields)
    (plain c.args.site.now (is_listing_call c.args.call.now)
    (length c.call_content-content.result.now))
