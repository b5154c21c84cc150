pub mod HookAnswers
