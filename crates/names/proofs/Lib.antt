mod First
pub mod RefusalLaws
