-- The host to which a handle leads.
use Rattle.std.specs.Prelude.{◌==◌, Option, None, if◌then◌else◌}
use Rattle.sq_host.specs.declared.handle.Handle.{Handle}
use Rattle.sq_host.specs.declared.host.Host.{Host}

-- the host to which a handle leads: one that has the word of an open handle
abbrev pub leads_to : Handle → Option Host
leads_to h = if h.word == 8318550311921733710 then h.kept.value else None
