use Rattle.dav_wire.proofs.CallLemmas.{means_same, nothing_got, nothing_put}
use Rattle.dav_wire.proofs.request.asked.Goals as goal

pub returns-in-Some-read_path : goal.returns-in-Some-read_path
returns-in-Some-read_path c = means_same c.args.method _ c.args.target.now _ c.args.body.now
    c.get_call.result c.new-in-Some-read_path.result _ c.in-Get.is
    c.in-Some-read_path.ensures.some.1 c.new-in-Some-read_path.ensures
    (c.get_call.ensures c.args.body.now)

pub returns-in-None-read_path : goal.returns-in-None-read_path
returns-in-None-read_path c = nothing_got c.args.target.now c.args.body.now
    c.in-None-read_path.ensures.none c.args.method c.in-Get.is

pub returns-in-None-read_path-3 : goal.returns-in-None-read_path-3
returns-in-None-read_path-3 c = nothing_put c.args.target.now c.args.body.now
    c.in-None-read_path-3.ensures.none c.args.method c.in-Put.is
