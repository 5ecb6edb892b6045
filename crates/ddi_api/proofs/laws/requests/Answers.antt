use Rattle.ddi_api.proofs.Common.{refl}
use Rattle.ddi_api.proofs.Facts.{device_table_is_good, unauthorized_first}
use Rattle.form_urlencoded.proofs.OnLiterals.{form_urlencoded_on_literals}
use Rattle.std.specs.Str.{chars, is_utf8}
use lib.Utf8.{encode}
use Rattle.request_target.specs.Routes.{route_of}
use Rattle.ddi_api.proofs.laws.requests.Goals as goal

pub returns-clause-routes_are_apart : goal.returns-clause-routes_are_apart
returns-clause-routes_are_apart c = device_table_is_good

pub returns-clause-unauthorized_comes_first : goal.returns-clause-unauthorized_comes_first
returns-clause-unauthorized_comes_first c = unauthorized_first

pub returns-clause-poll : goal.returns-clause-poll
unfolding route_of is_utf8 chars encode form_urlencoded_on_literals
returns-clause-poll c = refl

pub returns-clause-strangers_twice : goal.returns-clause-strangers_twice
unfolding route_of is_utf8 chars encode
returns-clause-strangers_twice c = refl

pub returns-clause-strangers_id : goal.returns-clause-strangers_id
unfolding route_of is_utf8 chars encode
returns-clause-strangers_id c = refl
