-- What is answered to lines about the disk balancer's plan
use Rattle.std.specs.Prelude.{ℕ, List, codes}
use Rattle.script_lang.specs.ReplyWords.{and_text}
use Rattle.script_lang.specs.PlanRefusal.{plan_refusal_text}
use Rattle.script_lang.specs.PlanReply.{plan_text}
use Rattle.script_lang.specs.declared.reply.balancer_reply.BalancerReply.{BalancerReply}
use Rattle.script_lang.specs.declared.reply.balancer_reply.BalancerReply.TheVariants.{Submitted, Refused, NoSuchPlan, Plan}

-- what it prints, without its line feed
abbrev pub balancer_reply_text : BalancerReply → List ℕ
balancer_reply_text (Submitted id) = and_text (codes "ok") id
balancer_reply_text (Refused refusal) = plan_refusal_text refusal
balancer_reply_text (NoSuchPlan id) = and_text (codes "nosuchplan") id
balancer_reply_text (Plan number state id steps) = plan_text number state id steps
