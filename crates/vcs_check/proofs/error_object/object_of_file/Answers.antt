use Rattle.std.proofs.Common.{◌≡◌, codes, rules}
use Rattle.serde_json.specs.Data.{string, object, member, no_members}
use Rattle.serde_json.specs.View.{view}
use Rattle.serde_json.specs.declared.value.Value.{the_lemmas}
use Rattle.serde_json.proofs.OnLiterals.{serde_json_on_literals}
use Rattle.vcs_check.proofs.error_object.object_of_file.Goals as goal

pub returns : goal.returns
unfolding serde_json_on_literals
returns c =
    let built : view c.in_ok-json.field-0 ≡ object (member (codes "error") (string c.args.error.now) (member (codes "file") (string c.args.file.now) (member (codes "reason") (string c.args.reason.now) no_members))) =
    search (rules, the_lemmas) in
    search rules
