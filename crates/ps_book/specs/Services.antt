-- The fields of a service.
use Rattle.ps_views.specs.Fields.{Fields, fields}
use Rattle.ps_book.specs.declared.service.Service.{Service}

abbrev pub fields_of : Service → Fields
fields_of s = fields s.versions s.tables.items s.items.items s.pins s.claims.seats s.terms
