use Rattle.jop_host.proofs.writer_sink.WriterSinkSink.write.Goals as goal

pub returns-in-Ok-eq0-clause-cause : goal.returns-in-Ok-eq0-clause-cause
returns-in-Ok-eq0-clause-cause g c = record {
  later = c.fault.ensures.later;
  failed = λ e is. c.fault.ensures.rose;
  stays = λ value is. cc;
}

pub returns-in-Err-clause-cause : goal.returns-in-Err-clause-cause
returns-in-Err-clause-cause g c = record {
  later = c.fault-in-Err.ensures.later;
  failed = λ e is. c.fault-in-Err.ensures.rose;
  stays = λ value is. cc;
}
