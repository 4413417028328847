mod SwitchLaws
