-- What a walk over a program finds: the least places at which names break their rules.
use Rattle.std.specs.Prelude.{List}
use Rattle.task_check.specs.declared.found.Found.{Found}
use Rattle.task_check.specs.Least.{least, lesser}
use Rattle.task_check.specs.Mentions.{Mention}
use Rattle.task_check.specs.NameRules.{places_where, is_twice_named, is_unknown, is_wrong_kind}

-- the least places among mentions
abbrev pub found_among : List Mention → Found
found_among among = record {
  twice_named = least (places_where is_twice_named among);
  unknown = least (places_where is_unknown among);
  wrong_kind = least (places_where is_wrong_kind among);
}

-- the lesser of each place
abbrev pub joined : Found → Found → Found
joined one other = record {
  twice_named = lesser one.twice_named other.twice_named;
  unknown = lesser one.unknown other.unknown;
  wrong_kind = lesser one.wrong_kind other.wrong_kind;
}
