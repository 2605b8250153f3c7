-- Why a connection wasn't served to its end.
use Rattle.dav_link.specs.declared.error.LinkErr.{LinkErr}
use Rattle.dav_link.specs.declared.error.LinkErr.TheVariants.{Fault, NoMemory, TooLong}
use Rattle.dav_server.specs.declared.error.ServeErr.{ServeErr}
use Rattle.dav_server.specs.declared.error.ServeErr.TheVariants.{LinkFault, NoMemory as NoRoom}

-- why, if nothing came over the link; a body that is too long counts as want of memory
abbrev pub serve_err : LinkErr → ServeErr
serve_err Fault = LinkFault
serve_err NoMemory = NoRoom
serve_err TooLong = NoRoom
