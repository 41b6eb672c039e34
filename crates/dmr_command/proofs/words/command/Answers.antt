use Rattle.std.proofs.Common.{codes}
use Rattle.std.proofs.lemmas.Result.{IfOk-weaker}
use Rattle.dmr_command.proofs.WordsLemmas.{IsOption, app_given, site_given}
use Rattle.dmr_command.proofs.words.command.Goals as goal

pub returns-clause-app : goal.returns-clause-app
returns-clause-app c =
    let site : IsOption c.site_option.result (codes "site") = record
    { id_is = c.site_option.ensures.id; plain = c.site_option.ensures.plain.0; local = c.site_option.ensures.plain.1 } in
    let script : IsOption c.script_option.result (codes "script") = record
    { id_is = c.script_option.ensures.id; plain = c.script_option.ensures.plain.0; local = c.script_option.ensures.plain.1 } in
    let serve : IsOption c.serve_flag.result (codes "serve") = record
    { id_is = c.serve_flag.ensures.id; plain = c.serve_flag.ensures.plain.0; local = c.serve_flag.ensures.plain.1 } in
    let terms : IsOption c.terms_option.result (codes "terms") = record
    { id_is = c.terms_option.ensures.id; plain = c.terms_option.ensures.plain.0; local = c.terms_option.ensures.plain.1 } in
    IfOk-weaker c.arg-4.result _ _ (λ cmd added. app_given _ _ _ _ site script serve terms c.titled_command.result c.in_ok-arg.field-0
    c.in_ok-arg-2.field-0 c.in_ok-arg-3.field-0 cmd c.in_ok-arg.ensures c.in_ok-arg-2.ensures c.in_ok-arg-3.ensures added
    c.titled_command.ensures.empty.0 c.titled_command.ensures.empty.1 c.titled_command.ensures.local.0 c.titled_command.ensures.local.1
    c.titled_command.ensures.app c.site_option.ensures.rule c.script_option.ensures.rule c.serve_flag.ensures.rule
    c.terms_option.ensures.rule) c.arg-4.ensures

pub returns-clause-site : goal.returns-clause-site
returns-clause-site c =
    let site : IsOption c.site_option.result (codes "site") = record
    { id_is = c.site_option.ensures.id; plain = c.site_option.ensures.plain.0; local = c.site_option.ensures.plain.1 } in
    let script : IsOption c.script_option.result (codes "script") = record
    { id_is = c.script_option.ensures.id; plain = c.script_option.ensures.plain.0; local = c.script_option.ensures.plain.1 } in
    let serve : IsOption c.serve_flag.result (codes "serve") = record
    { id_is = c.serve_flag.ensures.id; plain = c.serve_flag.ensures.plain.0; local = c.serve_flag.ensures.plain.1 } in
    let terms : IsOption c.terms_option.result (codes "terms") = record
    { id_is = c.terms_option.ensures.id; plain = c.terms_option.ensures.plain.0; local = c.terms_option.ensures.plain.1 } in
    IfOk-weaker c.arg-4.result _ _ (λ cmd added. site_given _ _ _ _ site script serve terms c.titled_command.result c.in_ok-arg.field-0
    c.in_ok-arg-2.field-0 c.in_ok-arg-3.field-0 cmd c.in_ok-arg.ensures c.in_ok-arg-2.ensures c.in_ok-arg-3.ensures added
    c.titled_command.ensures.empty.0 c.titled_command.ensures.empty.1 c.titled_command.ensures.local.0 c.titled_command.ensures.local.1
    c.site_option.ensures.value) c.arg-4.ensures
