use Rattle.std.proofs.Common.{length, arith, Option, MatchOption, subst, take}
use Rattle.httparse.specs.Spans.{RequestExceeds}
use Rattle.dav_wire.specs.RequestReading.{RequestReadsAs}
use Rattle.dav_wire.specs.declared.request_reader.ReadRequest.{ReadRequest}
use Rattle.dav_wire.proofs.RequestHeadLemmas.{never_crowded}
use Rattle.dav_wire.proofs.request_reader.read_crowded.Goals as goal

pub unreachable-requires : goal.unreachable-requires
unreachable-requires c =
    let bytes = c.args.bytes.now in
    let room = length c.as_mut_slice.result.now in
    let told = subst (λ (o : Option ReadRequest).
    MatchOption o (RequestExceeds room (take 16384 bytes)) (RequestReadsAs bytes)) c.in-None.is
    c.in_ok-read.ensures in
    never_crowded room bytes (omega (arith, c.as_mut_slice.ensures.len, c.in_ok-room.ensures.len))
    told
