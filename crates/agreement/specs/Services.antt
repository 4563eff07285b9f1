-- What the contracts of services cite.
use Rattle.std.specs.Prelude.{ℕ}
use Rattle.agreement.specs.declared.service.Service.{Service}
use Rattle.agreement.specs.declared.service.Service.TheVariants as service

-- the number of a service, counted from 0
abbrev pub service_number : Service → ℕ
service_number service.Read = 0
service_number service.Score = 1
service_number service.Sweep = 2
service_number service.Filter = 3
service_number service.Search = 4
