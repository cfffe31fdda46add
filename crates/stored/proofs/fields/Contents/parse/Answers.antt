use Rattle.std.proofs.Common.{rules}
use Rattle.stored.proofs.Parsed.{third_refused, fourth_refused, fifth_refused, at_the_end, contents_taken}
use Rattle.stored.proofs.fields.Contents.parse.Goals as goal

pub returns-in_err-content-3-clause-verdict : goal.returns-in_err-content-3-clause-verdict
returns-in_err-content-3-clause-verdict c =
    let h = third_refused c.args.entries c.args.bytes
    c.content.new.self c.in_ok-content.ensures.verdict c.in_ok-content.ensures.next
    c.content-2.new.self c.in_ok-content-2.ensures.verdict c.in_ok-content-2.ensures.next
    c.in_err-content-3.field-0.0 c.in_err-content-3.ensures.verdict in
    search rules

pub returns-in_err-content-4-clause-verdict : goal.returns-in_err-content-4-clause-verdict
returns-in_err-content-4-clause-verdict c =
    let h = fourth_refused c.args.entries c.args.bytes
    c.content.new.self c.in_ok-content.ensures.verdict c.in_ok-content.ensures.next
    c.content-2.new.self c.in_ok-content-2.ensures.verdict c.in_ok-content-2.ensures.next
    c.content-3.new.self c.in_ok-content-3.ensures.verdict c.in_ok-content-3.ensures.next
    c.in_err-content-4.field-0.0 c.in_err-content-4.ensures.verdict in
    search rules

pub returns-in_err-content-5-clause-verdict : goal.returns-in_err-content-5-clause-verdict
returns-in_err-content-5-clause-verdict c =
    let h = fifth_refused c.args.entries c.args.bytes
    c.content.new.self c.in_ok-content.ensures.verdict c.in_ok-content.ensures.next
    c.content-2.new.self c.in_ok-content-2.ensures.verdict c.in_ok-content-2.ensures.next
    c.content-3.new.self c.in_ok-content-3.ensures.verdict c.in_ok-content-3.ensures.next
    c.content-4.new.self c.in_ok-content-4.ensures.verdict c.in_ok-content-4.ensures.next
    c.in_err-content-5.field-0.0 c.in_err-content-5.ensures.verdict in
    search rules

pub returns-in_err-end-clause-verdict : goal.returns-in_err-end-clause-verdict
returns-in_err-end-clause-verdict c =
    let h = at_the_end c.args.entries c.args.bytes
    c.content.new.self c.in_ok-content.ensures.verdict c.in_ok-content.ensures.next
    c.content-2.new.self c.in_ok-content-2.ensures.verdict c.in_ok-content-2.ensures.next
    c.content-3.new.self c.in_ok-content-3.ensures.verdict c.in_ok-content-3.ensures.next
    c.content-4.new.self c.in_ok-content-4.ensures.verdict c.in_ok-content-4.ensures.next
    c.content-5.new.self c.in_ok-content-5.ensures.verdict c.in_ok-content-5.ensures.next
    _ c.in_err-end.ensures in
    search rules

pub returns-clause-verdict : goal.returns-clause-verdict
returns-clause-verdict c =
    at_the_end c.args.entries c.args.bytes
    c.content.new.self c.in_ok-content.ensures.verdict c.in_ok-content.ensures.next
    c.content-2.new.self c.in_ok-content-2.ensures.verdict c.in_ok-content-2.ensures.next
    c.content-3.new.self c.in_ok-content-3.ensures.verdict c.in_ok-content-3.ensures.next
    c.content-4.new.self c.in_ok-content-4.ensures.verdict c.in_ok-content-4.ensures.next
    c.content-5.new.self c.in_ok-content-5.ensures.verdict c.in_ok-content-5.ensures.next
    _ c.in_ok-end.ensures

pub returns-clause-set : goal.returns-clause-set
returns-clause-set c =
    contents_taken c.args.entries c.args.bytes
    c.content.new.self c.in_ok-content.ensures.verdict c.in_ok-content.ensures.next
    c.content-2.new.self c.in_ok-content-2.ensures.verdict c.in_ok-content-2.ensures.next
    c.content-3.new.self c.in_ok-content-3.ensures.verdict c.in_ok-content-3.ensures.next
    c.content-4.new.self c.in_ok-content-4.ensures.verdict c.in_ok-content-4.ensures.next
    (record {
      epoch_year = c.in_ok-content.field-0;
      g = c.in_ok-content-2.field-0;
      h = c.in_ok-content-3.field-0;
      g_dot = c.in_ok-content-4.field-0;
      h_dot = c.in_ok-content-5.field-0;
    })
    c.in_ok-content.ensures.content c.in_ok-content-2.ensures.content c.in_ok-content-3.ensures.content c.in_ok-content-4.ensures.content c.in_ok-content-5.ensures.content
